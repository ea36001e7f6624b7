use Rattle.std.proofs.Common.{◌∙◌, ℕ, ap, subst}
use Rattle.std.specs.Prelude.{Vec}
use Rattle.std.specs.declared.alloc.Global.{Global}
use Rattle.book_policy.specs.Rules.{IsPolicyOf}
use Rattle.book_policy_warnings.specs.Telling.{TellsUnsound}
use Rattle.book_policy_warnings.specs.Warnings.{AreWarningsOf}
use Rattle.book_policy_warnings.proofs.ToldPolicies.{told_policy, told_unsound}
use Rattle.book_policy_warnings.proofs.telling.tell_policy.Goals as goal

pub returns-in-Ok-read_policy : goal.returns-in-Ok-read_policy
returns-in-Ok-read_policy g c =
    let policy = c.in-Ok-read_policy.policy in
    let same = c.as_str.ensures.value ∙ ap (λ (v : Vec ℕ Global). v.items) c.in-Ok.ensures.ok in
    told_policy AreWarningsOf c.args.bytes.items _ _ _ policy c.tell_warnings.result (subst (λ text. IsPolicyOf text policy) same c.in-Ok-read_policy.ensures.policy) c.tell_warnings.ensures

pub returns-in-Err : goal.returns-in-Err
returns-in-Err g c =
    let tells = subst (λ (v : Vec ℕ Global). TellsUnsound v.items (g.E.Write.contents c.args.errors.now) (g.E.Write.contents c.tell_unsound.new.errors) c.tell_unsound.result)
    (c.into_bytes.ensures.value ∙ c.in-Ok.ensures.ok)
    c.tell_unsound.ensures in
    told_unsound AreWarningsOf c.args.bytes.items _ _ _ c.tell_unsound.result tells
