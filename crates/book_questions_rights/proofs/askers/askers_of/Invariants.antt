use Rattle.book_questions_rights.proofs.Common.{take, Ok, List, Office, Reads}
use Rattle.book_questions_rights.specs.Askers.{AreAskers}
use Rattle.book_questions_rights.specs.declared.askers.Asker.{Asker}
use Rattle.book_questions_rights.proofs.askers.askers_of.Given as goal

-- the callers so far are told
abbrev pub invariant-loop-caller : goal.invariant-loop-caller
invariant-loop-caller g l = Reads (g.K.Keeper.standing l.fn.keeper) (g.K.Keeper.standing l.keeper) (Ok l.askers.items)
    (λ (o : Office) (askers : List Asker). AreAskers o.pairs (take l.caller-index l.callers) askers)
