use Rattle.std.proofs.Common.{◌++◌, ◌∷◌, [], ◌∙◌, List, ap₂}
use Rattle.std.proofs.lemmas.Result.{IfOk-weaker}
use Rattle.book_policy_values.specs.declared.parts.PolicyEntry.{PolicyEntry}
use Rattle.book_policy_idle.proofs.Reasoning.{alone_tells}
use Rattle.book_policy_idle.proofs.reasons.is_for_nobody.Goals as goal

pub returns : goal.returns
returns c =
    IfOk-weaker c.decides_nothing.result _ _
    (λ idle tells.
    alone_tells c.args.policy.now c.as_slice.result.now c.args.entry.now idle
    (c.as_slice.ensures ∙ c.in_ok-push.ensures.ok ∙ ap₂ (λ (l : List PolicyEntry) (e : PolicyEntry). l ++ e ∷ []) c.new-alone.ensures c.in_ok-clone.ensures.cases)
    tells)
    c.decides_nothing.ensures
