use Rattle.std.proofs.Common.{◌≡◌, true, map, take}
use Rattle.book_policy_values.specs.declared.parts.PolicyEntry.{PolicyEntry}
use Rattle.book_policy_idle.proofs.marks.all_marked.Given as goal

abbrev pub invariant-loop-entry : goal.invariant-loop-entry
invariant-loop-entry l = l.marks.items ≡ map (λ (e : PolicyEntry). true) (take l._entry-index l.entries)
