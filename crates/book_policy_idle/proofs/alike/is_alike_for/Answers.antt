use Rattle.std.proofs.Common.{◌∙◌, sym}
use Rattle.std.proofs.lemmas.Bool.{false≢true}
use Rattle.book_policy_idle.specs.Alike.{AreDecidedAlike}
use Rattle.book_policy_idle.specs.Marks.{Both}
use Rattle.book_policy_idle.proofs.Alikeness.{told_as, told_no, told_yes}
use Rattle.book_policy_idle.proofs.alike.is_alike_for.Goals as goal

pub returns-then-not-is_alike : goal.returns-then-not-is_alike
returns-then-not-is_alike c =
    let same = AreDecidedAlike c.args.compared.now.whole c.args.compared.now.others in
    told_no (same c.args.asker.now.circle c.args.here.now) (Both same c.args.here.now c.args.is_book c.args.asker.now) c.is_alike.result c.if-not-is_alike.true c.is_alike.ensures
    (λ both. both.unowned)

pub returns-then-not-is_book : goal.returns-then-not-is_book
returns-then-not-is_book c =
    let same = AreDecidedAlike c.args.compared.now.whole c.args.compared.now.others in
    told_yes (Both same c.args.here.now c.args.is_book c.args.asker.now)
    (record { unowned = c.is_alike.ensures.0 c.if-not-is_alike.false; owned = λ book. absurd (false≢true (sym c.if-not-is_book.true ∙ book)) })

pub returns : goal.returns
returns c =
    let same = AreDecidedAlike c.args.compared.now.whole c.args.compared.now.others in
    told_as (same c.args.asker.now.circle c.args.asker.now.own) (Both same c.args.here.now c.args.is_book c.args.asker.now) c.is_alike-2.result c.is_alike-2.ensures
    (λ own. record { unowned = c.is_alike.ensures.0 c.if-not-is_alike.false; owned = λ book. own }) (λ both. both.owned c.if-not-is_book.false)
