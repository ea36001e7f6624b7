use Rattle.book_questions_changes.proofs.Common.{◌≡◌, take, Ok, gathered, map, Compares, Office}
use Rattle.book_office_values.specs.declared.paths.Path.{Path}
use Rattle.book_questions_changes.specs.Changes.{spot_at}
use Rattle.book_questions_changes.specs.Facts.{spot_block}
use Rattle.book_questions_changes.proofs.changes.add_each.Given as goal

-- the paths so far are told
abbrev pub invariant-loop-path : goal.invariant-loop-path
invariant-loop-path g l = Compares (g.K.Keeper.standing l.fn.before) (g.K.Keeper.standing l.before) (g.L.Keeper.standing l.fn.after) (g.L.Keeper.standing l.after) (Ok (tt {0}))
    (λ (o p : Office) (done : Unit {0}). l.blocks ≡ gathered l.fn.blocks (map (λ (at : Path). spot_block (spot_at o p at)) (take l.path-index l.paths)))
