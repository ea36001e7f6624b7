-- Edits of an access list (RFC 3744, sections 8.1 and 8.1.1).
use Rattle.std.specs.Prelude.{◌≡◌, ◌≢◌, ℕ, ◌<◌, ◌≤◌, ◌⊎◌, Bool, true, false, List, Option, Some, None, filter_map, slice_get, length}
use Rattle.book_rights.specs.declared.privileges.Leaf.{Leaf}
use Rattle.book_rights.specs.Leaves.{Meets}
use Rattle.book_lists.specs.declared.entries.Entry.{Entry}
use Rattle.book_lists.specs.declared.entries.Who.{Who}
use Rattle.book_limits.specs.declared.TheConstants.{MAX_ENTRIES}
use Rattle.book_lists.specs.declared.submitted.Submitted.{Submitted}
use Rattle.book_lists.specs.declared.list_edits.EditFault.{EditFault}
use Rattle.book_lists.specs.declared.list_edits.EditFault.TheVariants.{NoProtectedAceConflict, NoInheritedAceConflict, LimitedNumberOfAces, NotSupportedPrivilege, RecognizedPrincipal}

-- the same form (for a path, the same path) and inversion, the opposite action, and a leaf in common; an entry with a
-- name that is no privilege holds no leaf here
pub record Clashes (submitted : Submitted) (entry : Entry) : Type 0 where
  pub form : submitted.who ≡ Some entry.who
  pub inversion : submitted.invert ≡ entry.invert
  pub action : submitted.deny ≢ entry.deny
  pub set : Leaf → Bool
  pub supported : submitted.set ≡ Some set
  pub shared : Meets set entry.set

module _ (protected : List Entry) where
  abbrev pub ClashesWithAny : Submitted → Type 0
  ClashesWithAny submitted = (i : ℕ) × (entry : Entry) × (slice_get protected i ≡ Some entry) × Clashes submitted entry

  -- it is marked protected, or clashes with a protected entry
  abbrev pub Conflicts : Submitted → Type 0
  Conflicts submitted = (submitted.protected ≡ true) ⊎ ClashesWithAny submitted

  pub record IsFaultless (submitted : Submitted) : Type 0 where
    pub conflict : Conflicts submitted → ⊥
    pub inherited : submitted.inherited ≡ false
    pub supported : submitted.set ≢ None
    pub recognized : submitted.who ≢ None

  -- the least fault of an entry
  abbrev pub EntryFault : Submitted → EditFault → Type 0
  EntryFault submitted NoProtectedAceConflict = Conflicts submitted
  EntryFault submitted NoInheritedAceConflict = (Conflicts submitted → ⊥) × (submitted.inherited ≡ true)
  EntryFault submitted LimitedNumberOfAces = ⊥
  EntryFault submitted NotSupportedPrivilege = (Conflicts submitted → ⊥) × (submitted.inherited ≡ false) × (submitted.set ≡ None)
  EntryFault submitted RecognizedPrincipal = (Conflicts submitted → ⊥) × (submitted.inherited ≡ false) × (submitted.set ≢ None) × (submitted.who ≡ None)

  -- no entry has a fault
  abbrev pub IsAccepted : List Submitted → Type 0
  IsAccepted list = (length list ≤ MAX_ENTRIES) × ((i : ℕ) (submitted : Submitted) → slice_get list i ≡ Some submitted → IsFaultless submitted)

  -- the list is too long, or this is the least fault of the first entry that has one
  abbrev pub IsRefused : List Submitted → EditFault → Type 0
  IsRefused list fault = ((fault ≡ LimitedNumberOfAces) × (MAX_ENTRIES < length list))
      ⊎ ((length list ≤ MAX_ENTRIES) × ((i : ℕ) × (submitted : Submitted) × (slice_get list i ≡ Some submitted) × EntryFault submitted fault
      × ((k : ℕ) (earlier : Submitted) → k < i → slice_get list k ≡ Some earlier → IsFaultless earlier)))

-- ---- the entries that take the place of an own list
abbrev pub entry_with : Option Who → Option (Leaf → Bool) → Bool → Bool → Option Entry
entry_with None set invert deny = None
entry_with (Some who) None invert deny = None
entry_with (Some who) (Some set) invert deny = Some (record { who = who; invert = invert; deny = deny; set = set })

-- the entry that was submitted, where its principal is recognized and its privileges are supported
abbrev pub entry_of : Submitted → Option Entry
entry_of submitted = entry_with submitted.who submitted.set submitted.invert submitted.deny

abbrev pub entries_of : List Submitted → List Entry
entries_of list = filter_map entry_of list
