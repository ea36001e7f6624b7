use Rattle.book_questions_differs.proofs.Common.{◌≡◌, string_bytes, take}
use Rattle.book_questions_differs.specs.Lines.{lines_at}
use Rattle.book_questions_differs.proofs.lines.lines_at.Given as goal

-- the lines so far
abbrev pub invariant-loop-party : goal.invariant-loop-party
invariant-loop-party l = string_bytes l.text ≡ lines_at l.head l.before l.after (take l.party-index l.parties)
