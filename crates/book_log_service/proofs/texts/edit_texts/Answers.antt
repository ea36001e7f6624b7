use Rattle.std.proofs.Common.{ap, ◌∙◌}
use Rattle.book_log_lines.specs.Lines.{line_text}
use Rattle.book_log_lines.specs.declared.lines.Line.{Line}
use Rattle.book_log_service.specs.Texts.{with_status}
use Rattle.book_log_service.proofs.texts.edit_texts.Goals as goal

pub returns : goal.returns
returns c =
    let l : Line = c.in_ok-line.line in
    let t = c.in_ok-line.ensures in (
      (l, c.from_vec.ensures ∙ c.in_ok-one.ensures, t),
      (
        with_status l c.args.second,
        c.in_ok-two.ensures ∙ ap line_text c.with_status.ensures,
        (t.0, t.1, ap (λ (m : Line). with_status m c.args.second) t.2),
      ),
    )
