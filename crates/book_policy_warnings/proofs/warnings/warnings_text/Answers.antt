use Rattle.std.proofs.Common.{◌++◌, ◌-◌, ◌∙◌, length, ap}
use Rattle.std.specs.Prelude.{take}
use Rattle.book_policy_warnings.specs.Sentences.{more_line, warning_lines}
use Rattle.book_policy_warnings.proofs.FirstLines.{first_lines}
use Rattle.book_policy_warnings.proofs.warnings.warnings_text.Goals as goal

pub returns : goal.returns
returns c =
    let warnings = c.args.warnings.now in
    let told = c.min-told.result in
    c.in_ok-push_more.ensures
    ∙ ap (λ text. text ++ more_line (length warnings - told)) (c.in_ok-push_lines.ensures ∙ ap (λ text. text ++ warning_lines (take told warnings)) c.new-text.ensures.bytes)
    ∙ first_lines warnings told c.min-told.ensures
