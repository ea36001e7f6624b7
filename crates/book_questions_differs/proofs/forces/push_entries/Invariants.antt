use Rattle.book_questions_differs.proofs.Common.{◌≡◌, ◌++◌, take}
use Rattle.book_questions_differs.proofs.forces.push_entries.Given as goal

-- the entries so far
abbrev pub invariant-loop-entry : goal.invariant-loop-entry
invariant-loop-entry l = l.entries.items ≡ l.fn.entries.items ++ take l.entry-index l.list
