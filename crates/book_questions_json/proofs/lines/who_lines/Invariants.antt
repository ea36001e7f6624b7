use Rattle.book_questions_json.proofs.Common.{◌≡◌, string_bytes, take}
use Rattle.book_questions_json.specs.Facts.{who_facts}
use Rattle.book_questions_json.specs.Objects.{objects_text}
use Rattle.book_questions_json.proofs.lines.who_lines.Given as goal

-- the callers so far
abbrev pub invariant-loop-holder : goal.invariant-loop-holder
invariant-loop-holder l = string_bytes l.text ≡ objects_text (who_facts l.denied l.force l.set (take l.holder-index l.holders))
