use Rattle.std.proofs.Common.{◌∙◌, ℕ, ap, subst}
use Rattle.std.specs.Prelude.{Vec}
use Rattle.std.specs.declared.alloc.Global.{Global}
use Rattle.book_policy.specs.Rules.{IsPolicyOf}
use Rattle.book_policy_warnings.specs.Telling.{AreWarningsFrom, TellsUnsound}
use Rattle.book_policy_warnings.proofs.ToldPolicies.{false_apart, keeps_same, not_utf8_apart, told_over, told_unsound}
use Rattle.book_policy_warnings.proofs.telling.tell_policy_over.Goals as goal

pub returns-in-Ok-read_policy : goal.returns-in-Ok-read_policy
returns-in-Ok-read_policy g c =
    let policy = c.in-Ok-read_policy.policy in
    let same = c.as_str.ensures.value ∙ ap (λ (v : Vec ℕ Global). v.items) c.in-Ok.ensures.ok in
    told_over c.args.start c.args.bytes.items _ _ _ policy c.tell_over.result (subst (λ text. IsPolicyOf text policy) same c.in-Ok-read_policy.ensures.policy) c.tell_over.ensures

pub returns-in-Err : goal.returns-in-Err
returns-in-Err g c =
    let tells = subst (λ (v : Vec ℕ Global). TellsUnsound v.items (g.E.Write.contents c.args.errors.now) (g.E.Write.contents c.tell_unsound.new.errors) c.tell_unsound.result)
    (c.into_bytes.ensures.value ∙ c.in-Ok.ensures.ok)
    c.tell_unsound.ensures in
    told_unsound (AreWarningsFrom c.args.start) c.args.bytes.items _ _ _ c.tell_unsound.result tells

pub returns-in_default : goal.returns-in_default
returns-in_default g c = (keeps_same _, ((λ e. not_utf8_apart e), ((λ u. false_apart (c.in_default.ensures.succeeds u)), keeps_same _)))
