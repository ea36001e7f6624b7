-- The table `reach`: which pairs it holds, and how it is renewed.
use Rattle.std.specs.Prelude.{◌≡◌, ◌↔◌, ◌⊎◌, ℕ, Bool, true, false, ◌&&◌, List, [], ◌∷◌, ◌++◌, find, is_some, None, IsTrue}
use Rattle.std.specs.FinSet as set
use Rattle.std.specs.List.{list_any}
use Rattle.std.specs.Str.{bytes_eq}
use Rattle.sqlite.specs.declared.types.Value.{Value}
use Rattle.sqlite.specs.declared.types.Value.TheVariants.{Text}
use Rattle.sqlite.specs.Order.{Row, column}
use Rattle.sqlite.specs.State.{State}
use Rattle.book_lists.specs.Callers.{is_known}
use Rattle.book_lists.specs.Circles.{CircleOf, belongs, has_path}
use Rattle.book_lists.specs.Memberships.{Memberships, Chain}
use Rattle.book_lists.specs.Principals.{IsGroup}
use Rattle.book_lists.specs.declared.circles.Caller.{Caller}
use Rattle.book_lists.specs.declared.circles.Caller.TheVariants.{Nobody, Known}
use Rattle.book_lists.specs.declared.memberships.Membership.{Membership}
use Rattle.book_office.specs.Edits.{members_set}
use Rattle.book_tables_rows.specs.Rows.{Rows, rows_of, has, IsBook}
use Rattle.book_tables_rows.specs.Steps.{Looks}
use Rattle.book_tables_rows.specs.Writes.{Pair, is_pair}
use Rattle.book_tables.specs.Rows.{has_member}
use Rattle.book_tables.specs.declared.searching.Search.{Search}

-- some row pairs the group with the member
abbrev pub has_pair : List Row → Membership → Bool
has_pair reach m = is_some (find (is_pair m.group m.member) reach)

-- the rows pair a group with a principal exactly where a chain of direct members leads from the one to the other
abbrev pub HoldsReach : List Row → Memberships → Type 0
HoldsReach reach pairs = (m : Membership) → (has_pair reach m ≡ true) ↔ Chain pairs m.member m.group

-- ---- how it is renewed

abbrev pub pair_of : Membership → Pair
pair_of m = record { group = m.group; member = m.member }

abbrev pub is_among : List Pair → Membership → Bool
is_among pairs m = list_any (λ (p : Pair). bytes_eq p.group m.group && bytes_eq p.member m.member) pairs

-- the pairs that go and those that come where direct memberships become others: those with a chain of the old ones alone, and of the new ones alone
pub record Renews (old new : Memberships) (gone come : List Pair) : Type 0 where
  pub gone_are : (m : Membership) → (is_among gone m ≡ true) ↔ (Chain old m.member m.group × ¬ Chain new m.member m.group)
  pub come_are : (m : Membership) → (is_among come m ≡ true) ↔ (Chain new m.member m.group × ¬ Chain old m.member m.group)
  -- a pair that has a chain goes, or has one afterwards
  pub stays : (m : Membership) → Chain old m.member m.group → (is_among gone m ≡ true) ⊎ Chain new m.member m.group

-- what goes and what comes of the pairs near some principals, where the group gets those of the members that are among these
pub record RenewsNearby (s : Search) (group : List ℕ) (members : List (List ℕ)) (gone come : List Pair) : Type 0 where
  pub kept : List (List ℕ)
  pub are : (q : List ℕ) → has_path kept q ≡ (has_path members q && set.contains s.met q)
  pub renews : Renews s.pairs (members_set s.pairs group kept) gone come

-- ---- what a look-up tells

-- a known caller belongs to itself, and to each group that the rows pair with it
abbrev pub CallerReaches : List Row → Caller → List ℕ → Type 0
CallerReaches reach Nobody q = ⊥
CallerReaches reach (Known person) q = (person ≡ q) ⊎ (IsGroup q × (has_pair reach (record { group = q; member = person }) ≡ true))

-- the circle has the principals to which the caller belongs by these rows, whatever they are
pub record IsCircleByRows (reach : List Row) (caller : Caller) (circle : CircleOf) : Type 0 where
  pub known : is_some circle ≡ is_known caller
  pub principals : (q : List ℕ) → (belongs circle q ≡ true) ↔ CallerReaches reach caller q

-- the group of a row that a look-up by member shows
abbrev pub reached_group : Row → Value
reached_group row = column row 0

-- such a row tells the path of a group
abbrev pub tells_group : List ℕ → Row → Bool
tells_group q row = has 0 (Text q) row

-- the groups of a list are those that such rows tell
abbrev pub AreGroupsTold : List Row → List (List ℕ) → Type 0
AreGroupsTold rows groups = (q : List ℕ) → (has_path groups q ≡ true) ↔ (IsGroup q × (list_any (tells_group q) rows ≡ true))

-- the group of a row is added to some; nothing where the row tells none
abbrev pub AddsTold : Row → List (List ℕ) → List (List ℕ) → Type 0
AddsTold row old new =
    ((g : List ℕ) × IsGroup g × (reached_group row ≡ Text g) × (new ≡ old ++ g ∷ []))
    ⊎ (((q : List ℕ) → IsGroup q → tells_group q row ≡ false) × (new ≡ old))

-- what a connection shows of `reach` makes the circle of a caller; nobody belongs to nothing
abbrev pub ShowsCircle : State → Caller → CircleOf → Type 0
ShowsCircle s Nobody circle = circle ≡ None
ShowsCircle s (Known person) circle = IsTrue s.is_open × (IsBook s.now → IsCircleByRows (rows_of s.now.trees).reach (Known person) circle)

-- ---- it is settled

-- these are the pairs of the rows of `member`
abbrev pub AreDirect : Rows → Memberships → Type 0
AreDirect rows pairs = (m : Membership) → has_member rows m ≡ set.contains pairs m

-- inside a transaction: `reach` was written anew, and holds what chains of the rows of `member` lead to; all other rows stay
pub record Settles (old new : State) : Type 0 where
  pub inside : IsTrue new.in_transaction
  pub was_open : IsTrue old.is_open
  pub is_open : IsTrue new.is_open
  pub made : IsBook old.now
      → IsBook new.now × (reach : List Row) × (rows_of new.now.trees ≡ record (rows_of old.now.trees) { reach = reach }) × ((pairs : Memberships) → AreDirect (rows_of old.now.trees) pairs → HoldsReach reach pairs)

-- whether it was: if not, it held that already, and nothing was written
pub record IsSettled (old new : State) : Type 0 where
  pub was_open : IsTrue old.is_open
  pub looks : Looks old new
  pub holds : IsBook old.now → (pairs : Memberships) → AreDirect (rows_of old.now.trees) pairs → HoldsReach (rows_of old.now.trees).reach pairs

abbrev pub TellsSettled : State → State → Bool → Type 0
TellsSettled old new true = Settles old new
TellsSettled old new false = IsSettled old new
