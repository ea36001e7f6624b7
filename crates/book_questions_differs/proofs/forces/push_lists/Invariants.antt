use Rattle.book_questions_differs.proofs.Common.{◌≡◌, ◌++◌, take}
use Rattle.book_office.specs.InForce.{lists_in}
use Rattle.book_questions_differs.proofs.forces.push_lists.Given as goal

-- the lists so far
abbrev pub invariant-loop-level : goal.invariant-loop-level
invariant-loop-level l = l.entries.items ≡ l.fn.entries.items ++ lists_in l.protected (take l.level-index l.levels)
