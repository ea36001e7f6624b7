use Rattle.std.proofs.Common.{ap, ◌∙◌}
use Rattle.std.specs.Prelude.{option_copied}
use Rattle.std.proofs.lemmas.Result.{IfOk-weaker}
use Rattle.book_log_lines.specs.declared.lines.Line.TheVariants as line
use Rattle.book_log_replies.specs.Replies.{reply_of}
use Rattle.book_log_replies.specs.declared.replies.Exchange.{Exchange}
use Rattle.book_wire_serving.specs.Logs.{made_at}
use Rattle.book_log_service.proofs.texts.reply_text.Goals as goal

pub returns : goal.returns
returns c =
    IfOk-weaker c.text_of.result _ _ (λ text is. (
      line.Reply c.in_ok-line.line,
      is,
      (
        c.args.time.now,
        c.args.connection,
        ap line.Reply (c.in_ok-line.ensures
            ∙ ap (λ (x : Exchange). reply_of x c.args.request.now c.args.reply.now c.args.levels.now)
            (c.in_ok-exchange.ensures ∙ ap (made_at c.args.time.now c.args.connection (option_copied c.args.name)) c.no_effect.ensures)),
      ),
    )) c.text_of.ensures
