-- Entries without which the same is decided, over the same small model. The own list of a card, which requests make, stands behind the
-- protected entries and before the others, so that it may be any list here.
use Rattle.std.specs.Prelude.{◌≡◌, ℕ, Bool, true, false, not, ◌&&◌, cond, List, [], ◌∷◌, ◌++◌, All, Contains, Option, Some, None, option_map, nat_eq}
use Rattle.std.specs.List.{list_any}
use Rattle.book_rights.specs.Leaves.{every_leaf, same_leaves}
use Rattle.book_rights.specs.declared.privileges.Leaf.{Leaf}
use Rattle.book_lists.specs.Callers.{IsCircle}
use Rattle.book_lists.specs.Circles.{CircleOf}
use Rattle.book_lists.specs.Deciding.{decider, granted}
use Rattle.book_lists.specs.Decisions.{bears, denying}
use Rattle.book_lists.specs.Entries.{applies}
use Rattle.book_lists.specs.declared.circles.Caller.{Caller}
use Rattle.book_lists.specs.declared.entries.Entry.{Entry}
use Rattle.book_lists.specs.declared.entries.Here.{Here}
use Rattle.book_lists.specs.declared.entries.Who.TheVariants.{Everyone}
use Rattle.book_office_values.specs.declared.paths.Path.{Path}
use Rattle.book_policy_values.specs.declared.parts.PolicyEntry.{PolicyEntry}
use Rattle.book_policy_values.specs.declared.parts.PolicyTables.{PolicyTables}
use Rattle.book_policy_idle.specs.Idle.{IsHereAt, NeverDecides, callers_of, places_of}
use Rattle.book_policy_idle.specs.Marks.{Both, spot_at}
use Rattle.book_policy_idle.specs.declared.alike.Compared.{Compared}
use Rattle.book_policy_idle.specs.declared.alike.Which.{Which}
use Rattle.book_policy_idle.specs.declared.alike.Which.TheVariants as which
use Rattle.book_policy_idle.specs.declared.askers.Asker.{Asker}
use Rattle.book_policy_idle.specs.declared.in_force.Placed.{Placed}
use Rattle.book_policy_idle.specs.declared.spots.Spot.{Spot}

-- ---- with and without an entry

-- whether an entry is taken, by whether it has the index: each is, or those that have it, or the others
abbrev pub is_chosen : Which → Bool → Bool
is_chosen which.All same = true
is_chosen which.Only same = same
is_chosen which.Others same = not same

abbrev pub chosen : Which → ℕ → List Placed → List Entry
chosen w i [] = []
chosen w i (x ∷ xs) = cond (is_chosen w (nat_eq x.index i)) (x.entry ∷ chosen w i xs) (chosen w i xs)

-- the entries at a place in the order of decision, with an own list
abbrev pub joined : Which → ℕ → List Entry → Spot → List Entry
joined w i own spot = chosen w i spot.protected ++ (own ++ chosen w i spot.rest)

-- what is decided of a leaf: whether the first entry that applies and holds it denies; nothing where none does
abbrev pub decision : CircleOf → Here → List Entry → Leaf → Option Bool
decision circle here es leaf = option_map (λ (found : ℕ × Entry). denying found.1) (decider (bears circle here) es leaf)

-- by two lists the same is decided
abbrev pub AreDecidedAlike : List Entry → List Entry → CircleOf → Here → Type 0
AreDecidedAlike xs ys circle here = (leaf : Leaf) → decision circle here xs leaf ≡ decision circle here ys leaf

-- the entries at a place decide the same with and without the one with an index, whatever own list is there
abbrev pub IsAlikeAt : ℕ → Spot → CircleOf → Here → Type 0
IsAlikeAt i spot circle here = (own : List Entry) → AreDecidedAlike (joined which.All i own spot) (joined which.Others i own spot) circle here

-- For anybody, the same is decided with and without the entry with an index. What an entry denies and what none decides is not the same
-- here, though neither is granted: an entry that denies also stands before those that requests put into the lists above.
abbrev pub IsDecidedAlike : PolicyTables → ℕ → Type 0
IsDecidedAlike t i = (p : Path) (caller : Caller) (circle : CircleOf) (here : Here)
    → Contains (places_of t) p → Contains (callers_of t) caller → IsCircle t.members caller circle → IsHereAt p here
    → IsAlikeAt i (spot_at t.entries p) circle here

-- an entry that denies each leaf: it closes a place, also against entries that another policy adds
abbrev pub closes : PolicyEntry → Bool
closes e = e.entry.deny && same_leaves e.entry.set every_leaf

-- an entry that decides for somebody, does not close its place, and without which the same is decided
pub record CanGo (t : PolicyTables) (i : ℕ) (e : PolicyEntry) : Type 0 where
  pub decides : NeverDecides t i → ⊥
  pub leaves_open : closes e ≡ false
  pub alike : IsDecidedAlike t i

-- ---- what the program goes over

abbrev pub stands : ℕ → List Placed → Bool
stands i list = list_any (λ (x : Placed). nat_eq x.index i) list

-- an entry that decides each leaf for everybody
abbrev pub for_everyone : Bool → Entry
for_everyone deny = record { who = Everyone; invert = false; deny = deny; set = every_leaf }

abbrev pub own_list : Option Bool → List Entry
own_list None = []
own_list (Some deny) = for_everyone deny ∷ []

-- the entries at a place, and behind them one that grants each leaf to everybody
abbrev pub opened : Which → ℕ → List Entry → Spot → List Entry
opened w i own spot = joined w i own spot ++ for_everyone false ∷ []

abbrev pub compared_at : ℕ → Option Bool → Spot → Compared
compared_at i own spot = record {
  whole = joined which.All i (own_list own) spot;
  others = joined which.Others i (own_list own) spot;
  whole_opened = opened which.All i (own_list own) spot;
  others_opened = opened which.Others i (own_list own) spot;
  only = joined which.Only i [] spot;
}

-- by two lists the same is granted
abbrev pub AreGrantedAlike : List Entry → List Entry → CircleOf → Here → Type 0
AreGrantedAlike xs ys circle here = (leaf : Leaf) → granted (bears circle here) denying xs leaf ≡ granted (bears circle here) denying ys leaf

-- What is decided differs by what the one decides: where it does not apply, the same is decided. With an entry behind that grants each
-- leaf to everybody, what none decides is granted.
pub record Differs (compared : Compared) : Type 0 where
  pub whole_opened : compared.whole_opened ≡ compared.whole ++ for_everyone false ∷ []
  pub others_opened : compared.others_opened ≡ compared.others ++ for_everyone false ∷ []
  pub by_one : (circle : CircleOf) (here : Here) → All (λ (e : Entry). applies e circle here ≡ false) compared.only
      → AreDecidedAlike compared.whole compared.others circle here

-- for each who asks, with one own list, or with any
abbrev pub AlikeWith : ℕ → List Entry → List Asker → Spot → Type 0
AlikeWith i own askers spot = All (Both (AreDecidedAlike (joined which.All i own spot) (joined which.Others i own spot)) spot.here spot.is_book) askers

abbrev pub AlikeAt : ℕ → List Asker → Spot → Type 0
AlikeAt i askers spot = All (Both (IsAlikeAt i spot) spot.here spot.is_book) askers

-- at each of the places
abbrev pub AlikeAlong : ℕ → List Asker → List Spot → Type 0
AlikeAlong i askers spots = All (AlikeAt i askers) spots
