-- What reads tell of the Office without cards and changes.
use Rattle.std.specs.Prelude.{ℕ, List}
use Rattle.std.specs.FinMap.{empty}
use Rattle.book_lists.specs.Memberships.{Memberships}
use Rattle.book_office.specs.declared.nodes.Listed.{Listed}
use Rattle.book_office_values.specs.declared.offices.Book.{Book}
use Rattle.book_office_values.specs.declared.offices.Office.{Office}
use Rattle.book_office_values.specs.declared.offices.Properties.{Properties}
use Rattle.book_office_adopting.specs.TakingOver.{bare_books}
use Rattle.book_tables.specs.declared.places.Homes.{Homes}
use Rattle.book_tables.specs.declared.places.Places.{Places}

-- the name and the place of a child, as a listing tells them
abbrev pub place_told : Listed → List ℕ × Properties
place_told l = (l.name, record { owner = l.owner; label = l.label; protected = l.protected; own = l.own })

-- a book's, without cards and changes
abbrev pub book_told : Listed → List ℕ × Book
book_told l = (l.name, record { properties = (place_told l).1; cards = empty; changes = record { number = 0; last = empty } })

abbrev pub homes_of : Office → Homes
homes_of o = record { people = o.people; groups = o.groups_home; books = o.books_home }

abbrev pub places_of : Office → Places
places_of o = record { persons = o.persons; groups = o.groups; books = bare_books o.books }

-- an Office of its parts
abbrev pub office_told : Properties × Homes → Places → Memberships × ℕ → Office
office_told top places rest = record {
  root = top.0;
  people = top.1.people;
  groups_home = top.1.groups;
  books_home = top.1.books;
  persons = places.persons;
  groups = places.groups;
  books = places.books;
  pairs = rest.0;
  epoch = rest.1;
}
