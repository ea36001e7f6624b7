use Rattle.book_machine.proofs.Common.{◌≡◌, take, each_once}
use Rattle.book_machine.proofs.asked.each_once.Given as goal

-- the members so far, each once
abbrev pub invariant-loop-member : goal.invariant-loop-member
invariant-loop-member l = l.once.keys ≡ each_once (take l.member-index l.members)
