use Rattle.std.proofs.Common.{sym, eq-eqb}
use Rattle.book_policy_idle.proofs.Reasoning.{apart_eq, before_found, before_more}
use Rattle.book_policy_idle.proofs.reasons.before.Goals as goal

pub returns-then-placed-index : goal.returns-then-placed-index
returns-then-placed-index c =
    sym (before_found c.args.index c.args.list.now c.loop-place.place c.index-list-place.result c.loop-place-test.true c.index-list-place.is c.loop-place.invariant
    (eq-eqb c.index-list-place.result.index c.args.index c.if-placed-index.true))

pub loop-place-preserved : goal.loop-place-preserved
loop-place-preserved c =
    before_more c.args.index c.args.list.now c.loop-place.place c.index-list-place.result c.loop-place-test.true c.index-list-place.is c.loop-place.invariant
    (apart_eq c.index-list-place.result.index c.args.index c.if-placed-index.false)
