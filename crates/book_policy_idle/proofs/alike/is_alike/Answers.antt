use Rattle.std.proofs.Common.{◌≡◌, false, List, subst}
use Rattle.std.specs.Prelude.{All}
use Rattle.book_lists.specs.Entries.{applies}
use Rattle.book_lists.specs.declared.entries.Entry.{Entry}
use Rattle.book_policy_idle.specs.Alike.{AreDecidedAlike}
use Rattle.book_policy_idle.proofs.Alikeness.{alike_both, alike_no, told_yes}
use Rattle.book_policy_idle.proofs.alike.is_alike.Goals as goal

pub returns-then-not-applies_any : goal.returns-then-not-applies_any
returns-then-not-applies_any c =
    told_yes (AreDecidedAlike c.args.compared.now.whole c.args.compared.now.others c.args.circle.now c.args.here.now)
    (c.requires.by_one c.args.circle.now c.args.here.now
    (subst (λ (l : List Entry). All (λ (e : Entry). applies e c.args.circle.now c.args.here.now ≡ false) l) c.as_slice.ensures (c.applies_any.ensures c.if-not-applies_any.true)))

pub returns-then-not-are_granted_alike : goal.returns-then-not-are_granted_alike
returns-then-not-are_granted_alike c =
    alike_no c.args.circle.now c.args.here.now c.args.compared.now c.as_slice-whole.result.now c.as_slice-others.result.now c.are_granted_alike.result
    c.as_slice-whole.ensures c.as_slice-others.ensures c.if-not-are_granted_alike.true c.are_granted_alike.ensures

pub returns : goal.returns
returns c =
    alike_both c.args.circle.now c.args.here.now c.args.compared.now c.requires
    c.as_slice-whole.result.now c.as_slice-others.result.now c.as_slice-whole_opened.result.now c.as_slice-others_opened.result.now c.are_granted_alike.result c.are_granted_alike-2.result
    c.as_slice-whole.ensures c.as_slice-others.ensures c.as_slice-whole_opened.ensures c.as_slice-others_opened.ensures
    c.if-not-are_granted_alike.false c.are_granted_alike.ensures c.are_granted_alike-2.ensures
