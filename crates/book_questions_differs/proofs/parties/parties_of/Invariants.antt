use Rattle.book_questions_differs.proofs.Common.{take, Ok, List, Compares, Office}
use Rattle.book_questions_differs.specs.Parties.{AreParties}
use Rattle.book_questions_differs.specs.declared.parties.Party.{Party}
use Rattle.book_questions_differs.proofs.parties.parties_of.Given as goal

-- the callers so far are told
abbrev pub invariant-loop-name : goal.invariant-loop-name
invariant-loop-name g l = Compares (g.K.Keeper.standing l.fn.before) (g.K.Keeper.standing l.before) (g.L.Keeper.standing l.fn.after) (g.L.Keeper.standing l.after) (Ok l.parties.items)
    (λ (o p : Office) (parties : List Party). AreParties o p (take l.name-index l.names) parties)
