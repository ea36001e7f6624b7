use Rattle.book_dumps.proofs.Common.{◌++◌, ap, ◌∙◌, codes}
use Rattle.std.proofs.lemmas.Result.{IfOk-weaker}
use Rattle.json.specs.Print.{print}
use Rattle.json.specs.Tree.{json_tokens}
use Rattle.book_dumps.specs.Lines.{line_json}
use Rattle.book_dumps.specs.Objects.{added}
use Rattle.book_dumps.proofs.Written.{text_written}
use Rattle.book_dumps.proofs.writing.line_bytes.Goals as goal

pub returns : goal.returns
returns c =
    let j = line_json c.args.line.now in
    IfOk-weaker c.ended.result _ _ (λ line is. is
    ∙ ap (λ s. print s ++ codes "\n") (c.in_ok-write_line.ensures ∙ ap (λ s. added s (json_tokens j)) c.new-out.ensures)
    ∙ text_written j) c.ended.ensures
