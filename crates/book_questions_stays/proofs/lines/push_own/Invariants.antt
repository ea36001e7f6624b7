use Rattle.book_questions_stays.proofs.Common.{◌≡◌, ◌++◌, string_bytes, take}
use Rattle.book_questions_stays.specs.Stays.{own_stays}
use Rattle.book_questions_stays.proofs.lines.push_own.Given as goal

-- the entries so far
abbrev pub invariant-loop-entry : goal.invariant-loop-entry
invariant-loop-entry l = string_bytes l.text ≡ string_bytes l.fn.text ++ own_stays l.at (take l.entry-index l.own)
