use Rattle.std.proofs.Common.{List, subst}
use Rattle.std.specs.Prelude.{All}
use Rattle.std.proofs.lemmas.List.{take_all}
use Rattle.book_policy_idle.specs.Alike.{AreDecidedAlike}
use Rattle.book_policy_idle.specs.Marks.{Both}
use Rattle.book_policy_idle.specs.declared.askers.Asker.{Asker}
use Rattle.book_policy_idle.proofs.Alikeness.{All-at, All-one_more, told_no, told_yes}
use Rattle.book_policy_idle.proofs.alike.is_alike_for_each.Goals as goal

pub returns-then-not-is_alike_for : goal.returns-then-not-is_alike_for
returns-then-not-is_alike_for c =
    let P : Asker → Type 0 = Both (AreDecidedAlike c.args.compared.now.whole c.args.compared.now.others) c.args.here.now c.args.is_book in
    told_no (P c.asker-item.result) (All P c.args.askers.now) c.is_alike_for.result c.if-not-is_alike_for.true c.is_alike_for.ensures
    (All-at P c.args.askers.now c.loop-asker.asker-index c.asker-item.result c.loop-asker-test.true c.asker-item.is)

pub loop-asker-preserved : goal.loop-asker-preserved
loop-asker-preserved c =
    let P : Asker → Type 0 = Both (AreDecidedAlike c.args.compared.now.whole c.args.compared.now.others) c.args.here.now c.args.is_book in
    All-one_more P c.args.askers.now c.loop-asker.asker-index c.asker-item.result c.loop-asker-test.true c.asker-item.is c.loop-asker.invariant
    (c.is_alike_for.ensures.0 c.if-not-is_alike_for.false)

pub returns : goal.returns
returns c =
    let P : Asker → Type 0 = Both (AreDecidedAlike c.args.compared.now.whole c.args.compared.now.others) c.args.here.now c.args.is_book in
    told_yes (All P c.args.askers.now)
    (subst (λ (l : List Asker). All P l) (take_all c.loop-asker.asker-index c.args.askers.now c.loop-asker-test.false) c.loop-asker.invariant)
