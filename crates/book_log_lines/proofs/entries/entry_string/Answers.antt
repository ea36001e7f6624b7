use Rattle.book_log_lines.proofs.Common.{ap, ◌∙◌, value_written}
use Rattle.json.specs.Print.{print}
use Rattle.json.specs.Tree.{json_tokens}
use Rattle.book_json_lines.specs.Objects.{added}
use Rattle.book_log_lines.specs.Lines.{entry_json}
use Rattle.book_log_lines.proofs.entries.entry_string.Goals as goal

pub returns : goal.returns
returns c =
    let j = entry_json c.args.entry.now in
    c.into_string.ensures
    ∙ ap print (c.in_ok-write_entry.ensures ∙ ap (λ s. added s (json_tokens j)) c.new-out.ensures)
    ∙ value_written j
