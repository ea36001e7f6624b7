use Rattle.std.proofs.Common.{◌≡◌, List, map, take, Ok}
use Rattle.book_office.specs.Keeping.{Reads}
use Rattle.book_office_values.specs.declared.offices.Office.{Office}
use Rattle.book_office_copies.specs.Copies.{named_book}
use Rattle.book_office_copies.specs.declared.books.NamedBook.{NamedBook}
use Rattle.book_office_copies.proofs.books.read_each.Given as goal

-- the books so far are read
abbrev pub invariant-loop-one : goal.invariant-loop-one
invariant-loop-one g l = Reads (g.K.Keeper.standing l.fn.keeper) (g.K.Keeper.standing l.keeper) (Ok l.books.items)
    (λ (o : Office) (told : List NamedBook). told ≡ map (named_book o) (take l.one-index l.listed))
