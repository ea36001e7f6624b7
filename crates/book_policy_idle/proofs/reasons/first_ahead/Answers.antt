use Rattle.std.specs.Prelude.{All}
use Rattle.std.proofs.Common.{List, sym, ◌∙◌, subst}
use Rattle.std.proofs.lemmas.List.{take_all}
use Rattle.book_policy_idle.specs.Reasons.{IsBehindAt}
use Rattle.book_policy_idle.specs.declared.in_force.Placed.{Placed}
use Rattle.book_policy_idle.proofs.Reasoning.{ahead_found, ahead_more, ahead_none}
use Rattle.book_policy_idle.proofs.reasons.first_ahead.Goals as goal

pub returns-then-is_some : goal.returns-then-is_some
returns-then-is_some c =
    ahead_found c.args.policy.now c.args.entry.now c.args.list.now c.loop-placed.placed-index c.placed-item.result c.in_ok-ahead.ahead c.loop-placed-test.true c.placed-item.is
    c.loop-placed.invariant (sym c.is_some.ensures ∙ c.if-is_some.true) c.in_ok-ahead.ensures

pub loop-placed-preserved : goal.loop-placed-preserved
loop-placed-preserved c =
    ahead_more c.args.policy.now c.args.entry.now c.args.list.now c.loop-placed.placed-index c.placed-item.result c.loop-placed-test.true c.placed-item.is c.loop-placed.invariant
    (ahead_none c.args.policy.now c.args.entry.now c.placed-item.result.index c.in_ok-ahead.ahead (sym c.is_some.ensures ∙ c.if-is_some.false) c.in_ok-ahead.ensures)

pub returns : goal.returns
returns c =
    subst (λ (l : List Placed). All (λ (x : Placed). IsBehindAt c.args.policy.now c.args.entry.now x.index → ⊥) l) (take_all c.loop-placed.placed-index c.args.list.now c.loop-placed-test.false)
    c.loop-placed.invariant
