use Rattle.std.proofs.Common.{List, subst}
use Rattle.std.specs.Prelude.{All}
use Rattle.std.proofs.lemmas.List.{take_all}
use Rattle.book_policy_idle.specs.Alike.{AlikeAt}
use Rattle.book_policy_idle.specs.declared.spots.Spot.{Spot}
use Rattle.book_policy_idle.proofs.Alikeness.{All-at, All-one_more, told_no, told_yes}
use Rattle.book_policy_idle.proofs.alike.is_alike_along.Goals as goal

pub returns-then-not-branch : goal.returns-then-not-branch
returns-then-not-branch c =
    let P : Spot → Type 0 = AlikeAt c.args.index c.args.askers.now in
    told_no (P c.spot-item.result) (All P c.args.spots.now) c.in_ok-is_alike_at.field-0 c.if-not-branch.true c.in_ok-is_alike_at.ensures
    (All-at P c.args.spots.now c.loop-spot.spot-index c.spot-item.result c.loop-spot-test.true c.spot-item.is)

pub loop-spot-preserved : goal.loop-spot-preserved
loop-spot-preserved c =
    let P : Spot → Type 0 = AlikeAt c.args.index c.args.askers.now in
    All-one_more P c.args.spots.now c.loop-spot.spot-index c.spot-item.result c.loop-spot-test.true c.spot-item.is c.loop-spot.invariant
    (c.in_ok-is_alike_at.ensures.0 c.if-not-branch.false)

pub returns : goal.returns
returns c =
    let P : Spot → Type 0 = AlikeAt c.args.index c.args.askers.now in
    told_yes (All P c.args.spots.now)
    (subst (λ (l : List Spot). All P l) (take_all c.loop-spot.spot-index c.args.spots.now c.loop-spot-test.false) c.loop-spot.invariant)
