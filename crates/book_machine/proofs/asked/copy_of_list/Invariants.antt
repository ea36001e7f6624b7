use Rattle.book_machine.proofs.Common.{◌≡◌, take}
use Rattle.book_machine.proofs.asked.copy_of_list.Given as goal

-- the entries so far
abbrev pub invariant-loop-entry : goal.invariant-loop-entry
invariant-loop-entry l = l.copy.items ≡ take l.entry-index l.list
