-- What is asked of each part as the parts are read from the first on, against what was read before it.
use Rattle.std.specs.Prelude.{◌≡◌, ◌<◌, ◌≤◌, ℕ, Bool, true, false, cond, List, [], ◌∷◌, ◌++◌, length, None}
use Rattle.std.specs.List.{AllByRecursion}
use Rattle.std.specs.FinMap.{get, insert}
use Rattle.std.specs.FinSet as set
use Rattle.book_lists.specs.Names.{IsName}
use Rattle.book_lists.specs.declared.entries.Entry.{Entry}
use Rattle.book_office_values.specs.Names.{NamesTo}
use Rattle.book_policy_values.specs.Policies.{named_person, named_group, memberships, paired, entry_of, NamesPrincipal, NamesOwner, NamesForm, NamesPlace, HoldsSome, list_at}
use Rattle.book_office_values.specs.Texts.{IsLabel}
use Rattle.book_limits.specs.declared.TheConstants.{MAX_ENTRIES, MAX_MEMBERS}
use Rattle.book_policy_values.specs.declared.parts.PersonPart.{PersonPart}
use Rattle.book_policy_values.specs.declared.parts.GroupPart.{GroupPart}
use Rattle.book_policy_values.specs.declared.parts.BookPart.{BookPart}
use Rattle.book_policy_values.specs.declared.parts.EntryPart.{EntryPart}
use Rattle.book_policy_values.specs.declared.parts.PolicyEntry.{PolicyEntry}
use Rattle.book_policy_values.specs.declared.parts.PolicyBook.{PolicyBook}

-- a name with a label, that is not there
abbrev pub IsNew : {V : Type 0} → NamesTo V → List ℕ → List ℕ → Type 0
IsNew m name label = IsName name × IsLabel label × (get m name ≡ None)

-- each item is fine, and has a name that none before it has
abbrev pub CanAdd : {A V : Type 0} → (A → Type 0) → (A → List ℕ × V) → NamesTo V → List A → Type 0
CanAdd Fine entry m [] = Unit {0}
CanAdd Fine entry m (x ∷ xs) = Fine x × IsName (entry x).0 × (get m (entry x).0 ≡ None) × CanAdd Fine entry (insert m (entry x).0 (entry x).1) xs

abbrev pub PersonsFit : NamesTo (List ℕ) → List PersonPart → Type 0
PersonsFit = CanAdd (λ p. IsLabel p.label) named_person

abbrev pub GroupsFit : NamesTo (List ℕ) → List GroupPart → Type 0
GroupsFit = CanAdd (λ g. IsLabel g.label) named_group

-- a label, and an owner that is there
abbrev pub BookFits : NamesTo (List ℕ) → NamesTo (List ℕ) → BookPart → Type 0
BookFits persons groups b = IsLabel b.label × NamesOwner persons groups b.owner

abbrev pub MembersFit : NamesTo (List ℕ) → NamesTo (List ℕ) → List ℕ × List (List ℕ) → Type 0
MembersFit persons groups given =
    AllByRecursion (NamesPrincipal persons groups) given.1 × (set.len (paired set.empty (memberships given)) ≤ MAX_MEMBERS)

-- ---- entries, and their lists by the text of the path where they stand

abbrev pub pushed_at : NamesTo (List Entry) → List ℕ → Entry → NamesTo (List Entry)
pushed_at m at entry = insert m at (list_at m at ++ entry ∷ [])

abbrev pub with_entry : Bool → NamesTo (List Entry) → PolicyEntry → NamesTo (List Entry)
with_entry true m e = cond e.protected (pushed_at m e.at e.entry) m
with_entry false m e = cond e.protected m (pushed_at m e.at e.entry)

abbrev pub with_entries : Bool → NamesTo (List Entry) → List PolicyEntry → NamesTo (List Entry)
with_entries is_protected m [] = m
with_entries is_protected m (e ∷ es) = with_entries is_protected (with_entry is_protected m e) es

abbrev pub EntryFits : NamesTo (List ℕ) → NamesTo (List ℕ) → NamesTo PolicyBook → EntryPart → Type 0
EntryFits persons groups books e =
    HoldsSome e.entry.set × NamesForm persons groups e.entry.who × NamesPlace persons groups books e.at

abbrev pub HasRoom : NamesTo (List Entry) → NamesTo (List Entry) → PolicyEntry → Type 0
HasRoom protected own e = length (list_at (cond e.protected protected own) e.at) < MAX_ENTRIES

-- each entry fits, and its list has room for it
abbrev pub EntriesFit : (EntryPart → Type 0) → NamesTo (List Entry) → NamesTo (List Entry) → List EntryPart → Type 0
EntriesFit Fits protected own [] = Unit {0}
EntriesFit Fits protected own (e ∷ es) =
    Fits e × HasRoom protected own (entry_of e)
    × EntriesFit Fits (with_entry true protected (entry_of e)) (with_entry false own (entry_of e)) es
