use Rattle.book_questions_differs.proofs.Common.{◌≡◌, take, Ok, gathered, Compares, Office}
use Rattle.book_questions_differs.specs.Differences.{blocks_of}
use Rattle.book_questions_differs.proofs.answers.add_each.Given as goal

-- the paths so far are told
abbrev pub invariant-loop-path : goal.invariant-loop-path
invariant-loop-path g l = Compares (g.K.Keeper.standing l.fn.before) (g.K.Keeper.standing l.before) (g.L.Keeper.standing l.fn.after) (g.L.Keeper.standing l.after) (Ok (tt {0}))
    (λ (o p : Office) (done : Unit {0}). l.blocks ≡ gathered l.fn.blocks (blocks_of o p l.parties (take l.path-index l.paths)))
