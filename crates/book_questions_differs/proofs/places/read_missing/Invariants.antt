use Rattle.book_questions_differs.proofs.Common.{◌≡◌, take, Ok, Reads, Office}
use Rattle.std.proofs.Common.{filter}
use Rattle.book_questions_differs.specs.Places.{is_missing}
use Rattle.book_questions_differs.proofs.places.read_missing.Given as goal

-- the paths so far were asked about
abbrev pub invariant-loop-path : goal.invariant-loop-path
invariant-loop-path g l = Reads (g.K.Keeper.standing l.fn.keeper) (g.K.Keeper.standing l.keeper) (Ok (tt {0}))
    (λ (o : Office) (done : Unit {0}). l.missing.items ≡ filter (is_missing o) (take l.path-index l.paths))
