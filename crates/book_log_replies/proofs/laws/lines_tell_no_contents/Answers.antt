use Rattle.book_log_replies.proofs.Naming.{tell_no_contents}
use Rattle.book_log_replies.proofs.laws.lines_tell_no_contents.Goals as goal

pub returns : goal.returns
returns c = tell_no_contents
