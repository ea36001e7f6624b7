use Rattle.std.proofs.Common.{ap, ◌∙◌, refl, Some, None}
use Rattle.std.proofs.lemmas.Result.{IfOk-weaker}
use Rattle.book_log_lines.specs.Lines.{line_text}
use Rattle.book_log_lines.specs.declared.lines.Line.TheVariants as line
use Rattle.book_wire_serving.specs.Logs.{bare_line}
use Rattle.book_log_service.proofs.texts.bare_text.Goals as goal

pub returns : goal.returns
returns c =
    IfOk-weaker c.text_of.result _ _ (λ text is. (
      line.Reply (bare_line c.args.time c.args.connection c.args.status c.args.error.now),
      is
          ∙ ap line_text (λ i. line.Reply (record {
            time = c.args.time;
            connection = c.args.connection;
            caller = None;
            method = None;
            path = None;
            destination = None;
            status = c.args.status;
            error = Some (c.in_ok-error.ensures i);
            denied = None;
            touched = c.new.ensures i;
            epoch = None;
          })),
      (c.args.time, c.args.connection, refl),
    )) c.text_of.ensures
