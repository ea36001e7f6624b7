use Rattle.book_machine.proofs.Common.{◌≡◌, ◌++◌}
use Rattle.book_machine.proofs.asked.in_order.Given as goal

-- the principals so far and those to come are those of the set
abbrev pub invariant-loop-principal : goal.invariant-loop-principal
invariant-loop-principal l = record {
  next : (goal.iterator-loop-principal).can_next l.principal-iterator;
  finite : (goal.iterator-loop-principal).is_finite l.principal-iterator;
  parts : l.list.items ++ l.principal-iterator ≡ l.initial.principal-iterator;
}
