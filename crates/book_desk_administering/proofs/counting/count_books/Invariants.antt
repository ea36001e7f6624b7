use Rattle.std.proofs.Common.{◌≡◌, ℕ, take, Ok}
use Rattle.book_office.specs.Keeping.{Reads}
use Rattle.book_office_values.specs.declared.offices.Office.{Office}
use Rattle.book_desk_administering.specs.Counting.{cards_of}
use Rattle.book_desk_administering.proofs.counting.count_books.Given as goal

-- the cards of the books so far were counted
abbrev pub invariant-loop-book : goal.invariant-loop-book
invariant-loop-book g l = Reads (g.K.Keeper.standing l.fn.keeper) (g.K.Keeper.standing l.keeper) (Ok l.cards)
    (λ (o : Office) (cards : ℕ). cards ≡ cards_of o (take l.book-index l.books))
