-- What is counted of an Office (own profile).
use Rattle.std.specs.Prelude.{ℕ, ◌-◌, ◌^◌, min, List, sum_by}
use Rattle.book_office.specs.Resources.{children_at, count_at}
use Rattle.book_office.specs.declared.nodes.Listed.{Listed}
use Rattle.book_office_values.specs.declared.offices.Office.{Office}
use Rattle.book_office_values.specs.declared.paths.Path.TheVariants as path
use Rattle.book_desk_administering.specs.declared.counting.Counts.{Counts}

-- how many cards a book of a listing has
abbrev pub cards_in : Office → Listed → ℕ
cards_in o book = count_at o (path.Book book.name)

-- how many the books have together; a count stays at its last value
abbrev pub counted : ℕ → ℕ
counted n = min n (2 ^ 64 - 1)

abbrev pub cards_of : Office → List Listed → ℕ
cards_of o books = counted (sum_by (cards_in o) books)

-- the epoch; and how many persons, groups, books and cards there are
abbrev pub counts_of : Office → Counts
counts_of o = record {
  epoch = o.epoch;
  persons = count_at o path.People;
  groups = count_at o path.Groups;
  books = count_at o path.Books;
  cards = cards_of o (children_at o path.Books);
}
