use Rattle.std.specs.Prelude.{map, string_bytes, take}
use Rattle.book_lists_explain.specs.Lines.{AreLeaves}
use Rattle.book_desk_questions.proofs.asked.leaves_of.Given as goal

-- the leaves of the names so far
abbrev pub invariant-loop-name : goal.invariant-loop-name
invariant-loop-name l = AreLeaves (map string_bytes (take l.name-index l.names)) l.set
