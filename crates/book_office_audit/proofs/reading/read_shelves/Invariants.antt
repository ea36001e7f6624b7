use Rattle.book_office_audit.proofs.Common.{◌≡◌, take, map, Ok, List, Reads, Office, shelf_of, Shelf}
use Rattle.book_office_audit.proofs.reading.read_shelves.Given as goal

-- the cards of the books so far were read
abbrev pub invariant-loop-book : goal.invariant-loop-book
invariant-loop-book g l = Reads (g.K.Keeper.standing l.fn.keeper) (g.K.Keeper.standing l.keeper) (Ok l.shelves.items)
    (λ (o : Office) (shelves : List Shelf). shelves ≡ map (shelf_of o) (take l.book-index l.books))
