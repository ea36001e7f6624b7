use Rattle.book_questions_json.proofs.Common.{◌≡◌, ◌++◌, map, string_bytes, take}
use Rattle.book_questions_json.specs.Facts.{need_fact}
use Rattle.book_questions_json.specs.Objects.{objects_text}
use Rattle.book_questions_json.proofs.lines.push_needs.Given as goal

-- the needs so far
abbrev pub invariant-loop-why : goal.invariant-loop-why
invariant-loop-why l = string_bytes l.text ≡ string_bytes l.fn.text ++ objects_text (map (need_fact l.chains) (take l.why-index l.whys))
