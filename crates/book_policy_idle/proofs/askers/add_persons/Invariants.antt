use Rattle.std.proofs.Common.{take}
use Rattle.book_policy_idle.specs.Marks.{AddsAskers}
use Rattle.book_policy_idle.proofs.askers.add_persons.Given as goal

abbrev pub invariant-loop-name : goal.invariant-loop-name
invariant-loop-name l = AddsAskers l.reach l.fn.askers (take l.name-index l.names) l.askers
