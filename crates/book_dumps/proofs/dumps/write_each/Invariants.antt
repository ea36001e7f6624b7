use Rattle.book_dumps.proofs.Common.{take, Ok, Office}
use Rattle.book_dumps.specs.Dumps.{lines_at}
use Rattle.book_dumps.specs.Writing.{Writes}
use Rattle.book_dumps.proofs.dumps.write_each.Given as goal

-- the lines of the paths so far were written
abbrev pub invariant-loop-path : goal.invariant-loop-path
invariant-loop-path g l = Writes (g.K.Keeper.standing l.fn.keeper) (g.K.Keeper.standing l.keeper) (g.W.Write.contents l.fn.writer) (g.W.Write.contents l.writer)
    l.fn.count l.count (Ok tt) (λ (o : Office). lines_at o (take l.path-index l.paths))
