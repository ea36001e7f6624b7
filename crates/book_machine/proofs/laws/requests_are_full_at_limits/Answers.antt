use Rattle.book_machine.proofs.Limits.{full_at_limits}
use Rattle.book_machine.proofs.laws.requests_are_full_at_limits.Goals as goal

pub returns : goal.returns
returns c = full_at_limits
