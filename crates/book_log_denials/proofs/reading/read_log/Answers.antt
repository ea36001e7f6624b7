use Rattle.book_log_denials.proofs.Common.{◌++◌, List, sym, ap, ◌∙◌, append_assoc}
use Rattle.book_log_lines.specs.Lines.{line_text}
use Rattle.book_log_lines.specs.declared.lines.Line.{Line}
use Rattle.book_log_denials.specs.Reading.{log_text}
use Rattle.book_log_denials.proofs.Texts.{lines_more}
use Rattle.book_log_denials.proofs.reading.read_log.Goals as goal

pub loop-rest-preserved : goal.loop-rest-preserved
loop-rest-preserved c =
    let ls = c.loop-rest.lines in
    let l = c.in-Ok.line in
    let after = c.in-Ok.behind.now in
    c.loop-rest.invariant
    ∙ ap (λ t. log_text ls ++ t) c.in-Ok.ensures.whole
    ∙ sym (append_assoc (log_text ls) (line_text l) after)
    ∙ ap (λ t. t ++ after) (sym (lines_more ls l))
    ∙ ap (λ (xs : List Line). log_text xs ++ after) (sym c.in_ok-push-in-Ok.ensures.ok)
