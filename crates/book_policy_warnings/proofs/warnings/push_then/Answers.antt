use Rattle.std.proofs.Common.{◌++◌, ◌∙◌, ap, append_assoc, codes, string_bytes}
use Rattle.std.proofs.lemmas.Result.{on_ok_weaker}
use Rattle.book_office_values.specs.Paths.{path_text}
use Rattle.book_policy_warnings.proofs.warnings.push_then.Goals as goal

pub returns : goal.returns
returns c =
    let old = string_bytes c.args.text.now in
    let rest = path_text c.args.at.now ++ codes " is granted:" in
    on_ok_weaker c.push_at.result (λ e.
    e ∙ ap (λ text. text ++ rest) c.in_ok-push_str.ensures.bytes ∙ append_assoc old (codes "; then at ") rest)
    c.push_at.ensures
