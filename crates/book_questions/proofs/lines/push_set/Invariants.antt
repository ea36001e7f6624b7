use Rattle.book_questions.proofs.Common.{◌≡◌, ◌++◌, take, string_bytes, flat_map}
use Rattle.book_questions.specs.Lines.{ruled_lines}
use Rattle.book_questions.proofs.lines.push_set.Given as goal

-- the rulings so far
abbrev pub invariant-loop-ruling : goal.invariant-loop-ruling
invariant-loop-ruling l = string_bytes l.text ≡ string_bytes l.fn.text ++ flat_map (ruled_lines l.force l.chains l.set) (take l.ruling-index l.rulings)
