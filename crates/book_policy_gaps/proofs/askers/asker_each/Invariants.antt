use Rattle.book_policy_gaps.proofs.Common.{take, Ok, List, Office, Reads}
use Rattle.book_policy_gaps.specs.Askers.{AreAskers}
use Rattle.book_policy_gaps.specs.declared.askers.Asker.{Asker}
use Rattle.book_policy_gaps.proofs.askers.asker_each.Given as goal

-- the persons so far are told
abbrev pub invariant-loop-person : goal.invariant-loop-person
invariant-loop-person g l = Reads (g.K.Keeper.standing l.fn.keeper) (g.K.Keeper.standing l.keeper) (Ok l.askers.items)
    (λ (o : Office) (askers : List Asker). AreAskers o.pairs (take l.person-index l.persons) askers)
