use Rattle.book_wire_json.proofs.Common.{take, items_view, AreEntries}
use Rattle.book_wire_json.proofs.entries.entries.Given as goal

-- the entries of the values so far
abbrev pub invariant-loop-value : goal.invariant-loop-value
invariant-loop-value l = AreEntries (items_view (take l.value-index l.values)) l.found
