use Rattle.book_log_replies.proofs.ToldChanges.{edits_told}
use Rattle.book_log_replies.proofs.laws.edits_tell_their_changes.Goals as goal

pub returns : goal.returns
returns c = edits_told
