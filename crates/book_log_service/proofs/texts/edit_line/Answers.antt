use Rattle.std.proofs.Common.{[], ap, ◌∙◌}
use Rattle.book_log_lines.specs.declared.lines.Line.TheVariants as line
use Rattle.book_log_replies.specs.Replies.{reply_of}
use Rattle.book_log_replies.specs.declared.replies.Exchange.{Exchange}
use Rattle.book_log_service.specs.Drafts.{empty_reply}
use Rattle.book_log_service.proofs.texts.edit_line.Goals as goal

pub returns : goal.returns
returns c = (
  c.args.time.now,
  c.args.connection,
  ap line.Reply (c.in_ok-line.ensures ∙ ap (λ (x : Exchange). reply_of x c.args.request.now (empty_reply c.args.status) []) c.in_ok-exchange.ensures),
)
