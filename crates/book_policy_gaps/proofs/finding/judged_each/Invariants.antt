use Rattle.book_policy_gaps.proofs.Common.{◌≡◌, map, take, Ok, List, Office, Reads}
use Rattle.book_policy_gaps.specs.Gaps.{judged_at}
use Rattle.book_policy_gaps.specs.declared.gaps.Judged.{Judged}
use Rattle.book_policy_gaps.proofs.finding.judged_each.Given as goal

-- the paths so far are told
abbrev pub invariant-loop-path : goal.invariant-loop-path
invariant-loop-path g l = Reads (g.K.Keeper.standing l.fn.keeper) (g.K.Keeper.standing l.keeper) (Ok l.all.items)
    (λ (o : Office) (told : List Judged). told ≡ map (judged_at o l.everybody) (take l.path-index l.paths))
