-- What an Office becomes when it adopts a policy (own profile), in six steps.
use Rattle.std.specs.Prelude.{ℕ, ◌+◌, Bool, true, false, not, cond, List, [], ◌∷◌, codes, map, Option, None, unwrap_or}
use Rattle.std.specs.List.{list_any}
use Rattle.std.specs.FinMap.{get, insert, entries, keys, from_entries, len}
use Rattle.std.specs.FinSet as set
use Rattle.std.specs.Str.{bytes_eq}
use Rattle.book_lists.specs.Memberships.{Memberships}
use Rattle.book_lists.specs.Principals.{person_path, group_path}
use Rattle.book_lists.specs.declared.entries.Entry.{Entry}
use Rattle.book_lists.specs.declared.memberships.Membership.{Membership}
use Rattle.book_office_values.specs.Names.{NamesTo}
use Rattle.book_office_values.specs.Paths.{book_path}
use Rattle.book_policy_values.specs.Policies.{entries_at}
use Rattle.book_policy_values.specs.declared.parts.PolicyBook.{PolicyBook}
use Rattle.book_policy_values.specs.declared.parts.PolicyTables.{PolicyTables}
use Rattle.book_office_adopting.specs.declared.adopting.Adoption.{Adoption}
use Rattle.book_office_values.specs.declared.offices.Book.{Book}
use Rattle.book_office_values.specs.declared.offices.Office.{Office}
use Rattle.book_office_values.specs.declared.offices.Properties.{Properties}
use Rattle.book_office_values.specs.Fresh.{empty_properties, new_book}
use Rattle.book_office_adopting.specs.Sameness.{same_office}

-- a map where each name of another map gets a value made of what the other map has for it and what stood there
abbrev pub merged_into : {A V : Type 0} → (A → Option V → V) → NamesTo V → List (List ℕ × A) → NamesTo V
merged_into make m [] = m
merged_into make m (e ∷ es) = insert (merged_into make m es) e.0 (make e.1 (get m e.0))

abbrev pub merged : {A V : Type 0} → (A → Option V → V) → NamesTo A → NamesTo V → NamesTo V
merged make named m = merged_into make m (entries named)

-- a map with each value changed, by its name
abbrev pub mapped : {V : Type 0} → (List ℕ → V → V) → NamesTo V → NamesTo V
mapped change m = from_entries (map (λ e. (e.0, change e.0 e.1)) (entries m))

-- ---- 1. persons and groups that are not there are added with no owner and empty lists; the labels of all are set

abbrev pub labelled_or_new : List ℕ → Option Properties → Properties
labelled_or_new label properties = record (unwrap_or properties (empty_properties None)) { label = label }

abbrev pub with_principals : PolicyTables → Office → Office
with_principals t o = record o { persons = merged labelled_or_new t.persons o.persons; groups = merged labelled_or_new t.groups o.groups }

-- ---- 2. the direct members of each group of the policy become those that it lists

abbrev pub is_group_of : PolicyTables → List ℕ → Bool
is_group_of t group = list_any (λ name. bytes_eq (group_path name) group) (keys t.groups)

abbrev pub adopted_pairs : PolicyTables → Memberships → Memberships
adopted_pairs t pairs = set.union (set.retain pairs (λ (m : Membership). not (is_group_of t m.group))) t.members

abbrev pub with_members : PolicyTables → Office → Office
with_members t o = record o { pairs = adopted_pairs t o.pairs }

-- ---- 3. books that are not there are added; the owners and labels of all are set

abbrev pub owned : PolicyBook → Option Book → Book
owned named old =
    let book = unwrap_or old (new_book None) in
    record book { properties = record book.properties { owner = named.owner; label = named.label } }

abbrev pub with_books : PolicyTables → Office → Office
with_books t o = record o { books = merged owned t.books o.books }

-- ---- every place of an Office changed, by the text of its path

abbrev pub each_properties : (List ℕ → Properties → Properties) → Office → Office
each_properties change o = record o {
  root = change (codes "/") o.root;
  people = change (codes "/people") o.people;
  groups_home = change (codes "/groups") o.groups_home;
  books_home = change (codes "/books") o.books_home;
  persons = mapped (λ name properties. change (person_path name) properties) o.persons;
  groups = mapped (λ name properties. change (group_path name) properties) o.groups;
  books = mapped (λ name book. record book { properties = change (book_path name) book.properties }) o.books;
}

-- ---- 4. the protected list of each place becomes the policy's protected entries at it, in order

abbrev pub with_protected : PolicyTables → Office → Office
with_protected t = each_properties (λ at properties. record properties { protected = entries_at true at t.entries })

-- ---- 5. the own list of each place at which the policy has unprotected entries becomes those, in order

abbrev pub or_else : List Entry → List Entry → List Entry
or_else [] old = old
or_else (e ∷ es) old = e ∷ es

abbrev pub with_own : PolicyTables → Office → Office
with_own t = each_properties (λ at properties. record properties { own = or_else (entries_at false at t.entries) properties.own })

-- ---- 6. where the Office differs from before, the epoch rises by one

abbrev pub raised : Office → Office → Office
raised before after = cond (same_office before after) after (record after { epoch = after.epoch + 1 })

abbrev pub taken_over : PolicyTables → Office → Office
taken_over t o = with_own t (with_protected t (with_books t (with_members t (with_principals t o))))

abbrev pub adopt : PolicyTables → Office → Office
adopt t o = raised o (taken_over t o)

-- whether that changes anything, and how many books there are then
abbrev pub adoption_of : PolicyTables → Office → Adoption
adoption_of t o = record { changed = not (same_office o (taken_over t o)); books = len (taken_over t o).books }
