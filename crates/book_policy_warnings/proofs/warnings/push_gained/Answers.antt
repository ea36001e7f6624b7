use Rattle.std.proofs.Common.{◌++◌, ◌∙◌, ap, append_assoc, string_bytes}
use Rattle.std.proofs.lemmas.Result.{on_ok_weaker}
use Rattle.book_policy_warnings.specs.Sentences.{leaves_text, then_text}
use Rattle.book_policy_warnings.proofs.warnings.push_gained.Goals as goal

pub returns : goal.returns
returns c =
    let old = string_bytes c.args.text.now in
    let leaves = leaves_text c.args.leaves in
    on_ok_weaker c.push_leaves.result (λ e.
    e ∙ ap (λ text. text ++ leaves) c.in_ok-push_then.ensures ∙ append_assoc old (then_text c.args.at.now) leaves)
    c.push_leaves.ensures
