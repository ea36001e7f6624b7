-- The parts of an Office that takes over a policy, as they are made aside: maps with entries put into them, in turn.
use Rattle.std.specs.Prelude.{ℕ, ◌++◌, true, false, cond, List, [], ◌∷◌, Option, Some, None}
use Rattle.std.specs.FinMap.{get, insert, empty}
use Rattle.std.specs.FinSet as set
use Rattle.book_lists.specs.Memberships.{Memberships}
use Rattle.book_lists.specs.declared.memberships.Membership.{Membership}
use Rattle.book_office_values.specs.Names.{NamesTo}
use Rattle.book_office_values.specs.Paths.{book_path}
use Rattle.book_policy_values.specs.Policies.{entries_at}
use Rattle.book_policy_values.specs.declared.parts.PolicyBook.{PolicyBook}
use Rattle.book_policy_values.specs.declared.parts.PolicyTables.{PolicyTables}
use Rattle.book_office_values.specs.declared.offices.Book.{Book}
use Rattle.book_office_values.specs.declared.offices.Office.{Office}
use Rattle.book_office_values.specs.declared.offices.Properties.{Properties}
use Rattle.book_office_adopting.specs.Adopting.{labelled_or_new, owned, or_else, is_group_of, mapped}
use Rattle.book_office_values.specs.Names.{changed_at}

-- a place with its lists taken over
abbrev pub with_lists_taken : PolicyTables → List ℕ → Properties → Properties
with_lists_taken t at properties = record properties {
  protected = entries_at true at t.entries;
  own = or_else (entries_at false at t.entries) properties.own;
}

abbrev pub listed_book : PolicyTables → List ℕ → Book → Book
listed_book t at book = record book { properties = with_lists_taken t at book.properties }

-- entries put into a map, in turn
abbrev pub all_inserted : {X V : Type 0} → (List ℕ → X → V) → NamesTo V → List (List ℕ × X) → NamesTo V
all_inserted make m [] = m
all_inserted make m (e ∷ es) = all_inserted make (insert m e.0 (make e.0 e.1)) es

-- persons and groups that the policy names, and those that are there
abbrev pub new_properties : PolicyTables → List ℕ → List ℕ → List ℕ → Properties
new_properties t home name label = with_lists_taken t (home ++ name) (labelled_or_new label None)

abbrev pub relabelled : Option (List ℕ) → Properties → Properties
relabelled None properties = properties
relabelled (Some label) properties = record properties { label = label }

abbrev pub old_properties : PolicyTables → List ℕ → NamesTo (List ℕ) → List ℕ → Properties → Properties
old_properties t home labels name properties = with_lists_taken t (home ++ name) (relabelled (get labels name) properties)

-- books that the policy names, and those that are there, without their cards
abbrev pub fresh_book : PolicyTables → List ℕ → PolicyBook → Book
fresh_book t name named = listed_book t (book_path name) (owned named None)

abbrev pub reowned : Option PolicyBook → Properties → Properties
reowned None properties = properties
reowned (Some named) properties = record properties { owner = named.owner; label = named.label }

abbrev pub bare_book : PolicyTables → List ℕ → Book → Book
bare_book t name book = record {
  properties = with_lists_taken t (book_path name) (reowned (get t.books name) book.properties);
  cards = empty;
  changes = record { number = 0; last = empty };
}

-- an Office without cards and their changes
abbrev pub emptied : Book → Book
emptied book = record { properties = book.properties; cards = empty; changes = record { number = 0; last = empty } }

abbrev pub bare_books : NamesTo Book → NamesTo Book
bare_books = mapped (λ name book. emptied book)

abbrev pub bare : Office → Office
bare o = record o { books = bare_books o.books }

-- the cards and changes of books moved over
abbrev pub with_contents : Book → Book → Book
with_contents old book = record book { cards = old.cards; changes = old.changes }

abbrev pub moved : NamesTo Book → List (List ℕ × Book) → NamesTo Book
moved m [] = m
moved m (e ∷ es) = moved (changed_at (with_contents e.1) m e.0) es

-- the pairs of other groups added
abbrev pub kept_pairs : PolicyTables → Memberships → List Membership → Memberships
kept_pairs t pairs [] = pairs
kept_pairs t pairs (q ∷ qs) = kept_pairs t (cond (is_group_of t q.group) pairs (set.insert pairs q)) qs
