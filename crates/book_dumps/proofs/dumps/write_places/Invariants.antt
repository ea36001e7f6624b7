use Rattle.book_dumps.proofs.Common.{take, Ok, Office}
use Rattle.std.specs.List.{flat_map}
use Rattle.book_dumps.specs.Dumps.{lines_at, paths_in}
use Rattle.book_dumps.specs.Writing.{Writes}
use Rattle.book_dumps.proofs.dumps.write_places.Given as goal

-- the lines of the places so far were written
abbrev pub invariant-loop-place : goal.invariant-loop-place
invariant-loop-place g l = Writes (g.K.Keeper.standing l.fn.keeper) (g.K.Keeper.standing l.keeper) (g.W.Write.contents l.fn.writer) (g.W.Write.contents l.writer)
    l.fn.count l.count (Ok tt) (λ (o : Office). lines_at o (flat_map (paths_in o) (take l.place-index l.places)))
