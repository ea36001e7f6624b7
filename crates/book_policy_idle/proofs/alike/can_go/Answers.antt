use Rattle.std.proofs.Common.{◌∙◌, sym}
use Rattle.std.proofs.lemmas.Bool.{false≢true}
use Rattle.std.proofs.lemmas.Result.{IfOk-weaker}
use Rattle.book_policy_idle.specs.Alike.{CanGo, IsDecidedAlike}
use Rattle.book_policy_idle.proofs.Alikeness.{told_as}
use Rattle.book_policy_idle.proofs.alike.can_go.Goals as goal

pub returns-then-closes : goal.returns-then-closes
returns-then-closes c = (
  (λ is. absurd (false≢true is)),
  (λ can. absurd (false≢true (sym can.leaves_open ∙ sym c.closes.ensures ∙ c.if-closes.true))),
)

pub returns : goal.returns
returns c =
    IfOk-weaker c.is_decided_alike.result _ _
    (λ alike tells.
    told_as (IsDecidedAlike c.args.policy.now c.args.index) (CanGo c.args.policy.now c.args.index c.args.entry.now) alike tells
    (λ is. record { decides = c.requires.decides; leaves_open = sym c.closes.ensures ∙ c.if-closes.false; alike = is }) (λ can. can.alike))
    c.is_decided_alike.ensures
