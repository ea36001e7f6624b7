use Rattle.book_questions.proofs.Common.{take, Ok, List, Office, Reads, AreWhys, WhyNeed}
use Rattle.book_questions.proofs.rulings.why_each.Given as goal

-- the needs so far are told
abbrev pub invariant-loop-need : goal.invariant-loop-need
invariant-loop-need g l = Reads (g.K.Keeper.standing l.fn.keeper) (g.K.Keeper.standing l.keeper) (Ok l.whys.items)
    (λ (o : Office) (whys : List WhyNeed). AreWhys o l.circle (take l.need-index l.needs) whys)
