use Rattle.book_questions.proofs.Common.{◌≡◌, ◌++◌, take, string_bytes, flat_map}
use Rattle.book_questions.specs.Lines.{need_lines}
use Rattle.book_questions.proofs.lines.push_needs.Given as goal

-- the needs so far
abbrev pub invariant-loop-why : goal.invariant-loop-why
invariant-loop-why l = string_bytes l.text ≡ string_bytes l.fn.text ++ flat_map (need_lines l.chains) (take l.why-index l.whys)
