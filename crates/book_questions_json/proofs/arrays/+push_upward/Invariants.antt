use Rattle.std.proofs.Common.{length}
use Rattle.book_questions_json.proofs.arrays.+push_upward.Given as goal

-- the members that are left
abbrev pub decreases-push_upward : goal.decreases-push_upward
decreases-push_upward l = length l.members.now
