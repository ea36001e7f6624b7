-- By which chain of groups a caller belongs to a principal (RFC 3744, section 2; that it is told is own profile).
use Rattle.std.specs.Prelude.{◌≡◌, ◌≤◌, ℕ, Bool, true, false, ◌||◌, List, [], ◌∷◌, ◌++◌, length, codes, Option, Some, None, option_and_then, if◌then◌else◌}
use Rattle.std.specs.List.{AllByRecursion, find, flat_map, list_any}
use Rattle.std.specs.Option.{option_map_or}
use Rattle.std.specs.Str.{bytes_eq}
use Rattle.book_lists.specs.Callers.{IsCircle}
use Rattle.book_lists.specs.Circles.{CircleOf}
use Rattle.book_lists.specs.Entries.{applies}
use Rattle.book_lists.specs.Memberships.{Memberships, Descends}
use Rattle.book_lists.specs.declared.circles.Caller.{Caller}
use Rattle.book_lists.specs.declared.circles.Caller.TheVariants.{Nobody, Known}
use Rattle.book_lists.specs.declared.entries.Entry.{Entry}
use Rattle.book_lists.specs.declared.entries.Here.{Here}
use Rattle.book_lists.specs.declared.entries.Who.{Who}
use Rattle.book_lists.specs.declared.entries.Who.TheVariants.{Href, Everyone, Authenticated, Unauthenticated, Owner, Own}
use Rattle.book_lists.specs.declared.memberships.Membership.{Membership}
use Rattle.book_questions_chains.specs.declared.chains.Chain.{Chain}

-- from the group down to the principal, each a direct member of the one before; and no such way has fewer members
pub record IsShortest (pairs : Memberships) (p : List ℕ) (chain : Chain) : Type 0 where
  pub leads : Descends pairs chain.group chain.members p
  pub least : (members : List (List ℕ)) → Descends pairs chain.group members p → length chain.members ≤ length members

-- ---- the chain to a principal, among some
abbrev pub is_to : List ℕ → Chain → Bool
is_to group chain = bytes_eq chain.group group

abbrev pub chain_to : List Chain → List ℕ → Option Chain
chain_to chains group = find (is_to group) chains

abbrev pub has_chain : List Chain → List ℕ → Bool
has_chain chains group = list_any (is_to group) chains

-- shortest chains, and one to each principal to which the principal belongs
pub record AreChains (pairs : Memberships) (p : List ℕ) (chains : List Chain) : Type 0 where
  pub each : AllByRecursion (IsShortest pairs p) chains
  pub every : (group : List ℕ) (members : List (List ℕ)) → Descends pairs group members p → has_chain chains group ≡ true

-- nobody belongs to nothing
abbrev pub AreChainsOf : Memberships → Caller → List Chain → Type 0
AreChainsOf pairs Nobody chains = chains ≡ []
AreChainsOf pairs (Known person) chains = AreChains pairs person chains

-- ---- the chain by which an entry applies
-- the principal to which a form asks the caller to belong
abbrev pub asked_of : Who → Here → Option (List ℕ)
asked_of (Href p) here = Some p
asked_of Everyone here = None
asked_of Authenticated here = None
asked_of Unauthenticated here = None
asked_of Owner here = here.owner
asked_of Own here = here.principal

-- an inverted entry asks to belong to none
abbrev pub asked_by : Entry → Here → Option (List ℕ)
asked_by entry here = if entry.invert then None else asked_of entry.who here

abbrev pub chain_by : Here → List Chain → Entry → Option Chain
chain_by here chains entry = option_and_then (chain_to chains) (asked_by entry here)

-- an entry that applies to a known caller since it belongs to a principal has its chain there, and a shortest one
abbrev pub ChainsAreTold : Type 0
ChainsAreTold = (pairs : Memberships) (person : List ℕ) (circle : CircleOf) (here : Here) (chains : List Chain) (entry : Entry) (p : List ℕ)
    → IsCircle pairs (Known person) circle → AreChains pairs person chains → applies entry circle here ≡ true → asked_by entry here ≡ Some p
    → (chain : Chain) × (chain_by here chains entry ≡ Some chain) × (chain.group ≡ p) × IsShortest pairs person chain

-- ---- the line: the caller, and each group up to the one that the entry asks for; none where that is the caller itself
abbrev pub chain_text : List ℕ → List (List ℕ) → List ℕ
chain_text group [] = group
chain_text group (member ∷ members) = chain_text member members ++ (codes " in " ++ group)

abbrev pub members_line : List ℕ → List (List ℕ) → List ℕ
members_line group [] = []
members_line group (member ∷ members) = codes "  by " ++ (chain_text group (member ∷ members) ++ codes "\n")

abbrev pub chain_line : Chain → List ℕ
chain_line chain = members_line chain.group chain.members

abbrev pub by_line : Here → List Chain → Entry → List ℕ
by_line here chains entry = option_map_or chain_line (chain_by here chains entry) []

-- ---- the search: one membership more
-- the chain with a group above it
abbrev pub above : List ℕ → Chain → Chain
above group chain = record { group = group; members = chain.group ∷ chain.members }

-- the group of a pair whose member is at the front, where it was not met
abbrev pub rise_from : List Chain → List Chain → List ℕ → Option Chain → List Chain
rise_from settled front group None = []
rise_from settled front group (Some chain) = if has_chain settled group || has_chain front group then [] else (above group chain ∷ [])

abbrev pub rise : List Chain → List Chain → Membership → List Chain
rise settled front pair = rise_from settled front pair.group (chain_to front pair.member)

abbrev pub risen : List Chain → List Chain → List Membership → List Chain
risen settled front pairs = flat_map (rise settled front) pairs
