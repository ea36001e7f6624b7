-- New properties and books.
use Rattle.std.specs.Prelude.{ℕ, List, [], Option}
use Rattle.std.specs.FinMap.{empty}
use Rattle.book_office_values.specs.declared.offices.Book.{Book}
use Rattle.book_office_values.specs.declared.offices.Properties.{Properties}

-- an empty label and empty lists
abbrev pub empty_properties : Option (List ℕ) → Properties
empty_properties owner = record { owner = owner; label = []; protected = []; own = [] }

-- MKCOL: a book with an empty label, empty lists, no cards and the number 0
abbrev pub new_book : Option (List ℕ) → Book
new_book owner = record {
  properties = empty_properties owner;
  cards = empty;
  changes = record { number = 0; last = empty };
}
