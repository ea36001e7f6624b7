use Rattle.book_questions_rights.proofs.Common.{◌≡◌, string_bytes, take}
use Rattle.book_questions_rights.specs.Lines.{lines_at}
use Rattle.book_questions_rights.proofs.lines.lines_at.Given as goal

-- the lines so far
abbrev pub invariant-loop-asker : goal.invariant-loop-asker
invariant-loop-asker l = string_bytes l.text ≡ lines_at l.head l.entries l.here (take l.asker-index l.askers)
