use Rattle.book_questions.proofs.Common.{◌≡◌, take, string_bytes, flat_map}
use Rattle.book_questions.specs.Who.{told_lines}
use Rattle.book_questions.proofs.who_lines.who_text.Given as goal

-- the callers so far
abbrev pub invariant-loop-holder : goal.invariant-loop-holder
invariant-loop-holder l = string_bytes l.text ≡ flat_map (told_lines l.denied l.force l.set) (take l.holder-index l.holders)
