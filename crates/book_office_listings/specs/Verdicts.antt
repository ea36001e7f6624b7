-- The decision on a set of leaves at a resource, by the entries in force there (RFC 3744, section 6).
use Rattle.std.specs.Prelude.{◌≡◌, ℕ, ◌+◌, Bool, List, map, slice_get, Option, Some, None, option_map, option_and_then}
use Rattle.book_rights.specs.Privileges.{denied_name}
use Rattle.book_rights.specs.declared.privileges.Leaf.{Leaf}
use Rattle.book_lists.specs.Circles.{CircleOf}
use Rattle.book_lists.specs.Decisions.{IsAllowed, IsDenial}
use Rattle.book_lists.specs.Principals.{person_path, group_path}
use Rattle.book_lists.specs.declared.entries.Entry.{Entry}
use Rattle.book_lists.specs.declared.entries.Here.{Here}
use Rattle.book_office_values.specs.declared.offices.Office.{Office}
use Rattle.book_office_values.specs.declared.paths.Path.{Path}
use Rattle.book_office_values.specs.declared.paths.Path.TheVariants as path
use Rattle.book_office.specs.Levels.{effective_at}
use Rattle.book_office.specs.Resources.{Resource, resource_at}
use Rattle.book_office.specs.declared.nodes.EffectiveEntry.{EffectiveEntry}
use Rattle.book_office_listings.specs.declared.messages.DecidingEntry.{DecidingEntry}
use Rattle.book_office_listings.specs.declared.messages.Denial.{Denial}

-- the resource itself, where it is a principal
abbrev pub principal_of : Path → Option (List ℕ)
principal_of path.Root = None
principal_of path.People = None
principal_of path.Groups = None
principal_of path.Books = None
principal_of (path.Person n) = Some (person_path n)
principal_of (path.Group n) = Some (group_path n)
principal_of (path.Book b) = None
principal_of (path.Card b c) = None

abbrev pub owner_at : Office → Path → Option (List ℕ)
owner_at o p = option_and_then (λ (r : Resource). r.owner) (resource_at o p)

-- what the entries ask of a resource
abbrev pub here_of : Office → Path → Here
here_of o p = record { owner = owner_at o p; principal = principal_of p }

-- the entries of an effective list
abbrev pub bare_entries : List EffectiveEntry → List Entry
bare_entries list = map (λ (e : EffectiveEntry). e.entry) list

-- where the entries of an effective list stand
abbrev pub paths_of : List EffectiveEntry → List Path
paths_of list = map (λ (e : EffectiveEntry). e.path) list

-- the entry at a place of the effective list, as a denial names it: where it stands, and its number from 1
abbrev pub entry_in : List Path → ℕ → Option DecidingEntry
entry_in paths i = option_map (λ (from : Path). record { from = from; number = i + 1 }) (slice_get paths i)

abbrev pub deciding_entry : List Path → Option ℕ → Option DecidingEntry
deciding_entry paths index = option_and_then (entry_in paths) index

module _ (list : List EffectiveEntry) (circle : CircleOf) (here : Here) where
  -- every leaf is granted by the effective list
  abbrev pub IsGrantedBy : (Leaf → Bool) → Type 0
  IsGrantedBy set = IsAllowed (bare_entries list) circle here set

  -- the denial names the resource, the privilege for the leaf, and the entry that decides it
  pub record IsDeniedBy (p : Path) (set : Leaf → Bool) (denial : Denial) : Type 0 where
    pub leaf : Leaf
    pub index : Option ℕ
    pub resource : denial.resource ≡ p
    pub entry : denial.entry ≡ deciding_entry (paths_of list) index
    pub privilege : denial.privilege ≡ denied_name leaf set
    pub decided : IsDenial (bare_entries list) circle here set leaf index

module _ (o : Office) (circle : CircleOf) where
  -- the same by the entries in force at the resource
  abbrev pub IsGrantedAt : Path → (Leaf → Bool) → Type 0
  IsGrantedAt p set = IsGrantedBy (effective_at o p) circle (here_of o p) set

  abbrev pub IsDeniedAt : Path → (Leaf → Bool) → Denial → Type 0
  IsDeniedAt p set denial = IsDeniedBy (effective_at o p) circle (here_of o p) p set denial
