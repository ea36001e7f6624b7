use Rattle.book_office_cache.proofs.Common.{rules}
use Rattle.std.proofs.Common.{IsTrue}
use Rattle.book_office_cache.proofs.CardEdits.{bare_move_remembers, move_remembers}
use Rattle.book_office_cache.proofs.remembered.Remembered.follow_move.Goals as goal

pub returns-then-not-bare : goal.returns-then-not-bare
returns-then-not-bare c = λ o to_card remembers.
    rw (c.forget_bare_of.ensures, c.remove-2.ensures.removed, c.remove.ensures.removed)
    (move_remembers c.args.self.now o remembers c.args.from_book.now c.args.from_card.now c.args.to_book.now to_card c.count_card.new.counts c.count_card.ensures)

pub returns-else-not-bare : goal.returns-else-not-bare
returns-else-not-bare c = λ o to_card remembers.
    let yes : IsTrue c.is_bare-bare.result = search rules in
    rw (c.remove-2.ensures.removed, c.remove.ensures.removed)
    (bare_move_remembers c.args.self.now o remembers c.args.from_book.now c.args.from_card.now c.args.to_book.now to_card c.count_card.new.counts (c.is_bare-bare.ensures o remembers yes) c.count_card.ensures)
