use Rattle.book_log_lines.proofs.Common.{◌++◌, ap, ◌∙◌, codes, IfOk-weaker, text_written}
use Rattle.json.specs.Print.{print}
use Rattle.json.specs.Tree.{json_tokens}
use Rattle.book_json_lines.specs.Objects.{added}
use Rattle.book_log_lines.specs.Lines.{line_json}
use Rattle.book_log_lines.proofs.writing.line_bytes.Goals as goal

pub returns : goal.returns
returns c =
    let j = line_json c.args.line.now in
    IfOk-weaker c.into_line.result _ _ (λ line is. is
    ∙ ap (λ s. print s ++ codes "\n") (c.in_ok-write_line.ensures ∙ ap (λ s. added s (json_tokens j)) c.new-out.ensures)
    ∙ text_written j) c.into_line.ensures
