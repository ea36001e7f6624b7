use Rattle.book_questions_stays.proofs.Common.{◌≡◌, Ok, flat_map, gathered, take, Office}
use Rattle.book_office.specs.Keeping.{Reads}
use Rattle.book_questions_stays.specs.Stays.{blocks_at}
use Rattle.book_questions_stays.proofs.answers.add_each.Given as goal

-- the paths so far are told
abbrev pub invariant-loop-path : goal.invariant-loop-path
invariant-loop-path g l = Reads (g.K.Keeper.standing l.fn.keeper) (g.K.Keeper.standing l.keeper) (Ok (tt {0}))
    (λ (o : Office) (done : Unit {0}). l.blocks ≡ gathered l.fn.blocks (flat_map (blocks_at l.policy o) (take l.path-index l.paths)))
