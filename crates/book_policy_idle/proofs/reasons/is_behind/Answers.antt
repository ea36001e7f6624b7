use Rattle.std.proofs.Common.{◌++◌, ◌∷◌, [], ◌∙◌, List, ap₂}
use Rattle.std.proofs.lemmas.Result.{IfOk-weaker}
use Rattle.book_policy_values.specs.declared.parts.PolicyEntry.{PolicyEntry}
use Rattle.book_policy_idle.proofs.Reasoning.{both_tell}
use Rattle.book_policy_idle.proofs.reasons.is_behind.Goals as goal

abbrev pushed : List PolicyEntry → PolicyEntry → List PolicyEntry
pushed l e = l ++ e ∷ []

pub returns : goal.returns
returns c =
    IfOk-weaker c.decides_nothing.result _ _
    (λ idle tells.
    both_tell c.args.policy.now c.as_slice.result.now c.args.ahead.now c.args.entry.now idle
    (c.as_slice.ensures ∙ c.in_ok-push-2.ensures.ok
    ∙ ap₂ pushed (c.in_ok-push.ensures.ok ∙ ap₂ pushed c.new-both.ensures c.in_ok-clone.ensures.cases) c.in_ok-clone-2.ensures.cases)
    tells)
    c.decides_nothing.ensures
