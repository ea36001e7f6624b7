use Rattle.book_questions_json.proofs.Common.{◌≡◌, flat_map, string_bytes, take}
use Rattle.book_questions_json.specs.Held.{held_at, held_line}
use Rattle.book_questions_json.proofs.held.held_lines.Given as goal

-- those who hold a leaf so far
abbrev pub invariant-loop-asker : goal.invariant-loop-asker
invariant-loop-asker l = string_bytes l.text ≡ flat_map held_line (held_at l.place l.cards l.entries l.here (take l.asker-index l.askers))
