use Rattle.std.proofs.Common.{◌≡◌, take}
use Rattle.book_office_copies.specs.Copies.{lasts_in}
use Rattle.book_office_copies.proofs.numbers.add_changes.Given as goal

-- the changes so far are entered
abbrev pub invariant-loop-change : goal.invariant-loop-change
invariant-loop-change l = l.numbers.last ≡ lasts_in l.fn.numbers.last (take l.change-index l.changes)
