use Rattle.book_desk_control.proofs.Sending.{sent_in_order}
use Rattle.book_desk_control.proofs.laws.replies_are_sent_in_order.Goals as goal

pub returns : goal.returns
returns c = sent_in_order
