use Rattle.std.proofs.Common.{length}
use Rattle.book_questions_chains.proofs.lines.+push_chain_text.Given as goal

-- the members that are left
abbrev pub decreases-push_chain_text : goal.decreases-push_chain_text
decreases-push_chain_text l = length l.members.now
