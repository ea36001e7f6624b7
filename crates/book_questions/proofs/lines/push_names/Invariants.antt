use Rattle.book_questions.proofs.Common.{◌≡◌, ◌++◌, take, string_bytes, flat_map}
use Rattle.book_lists_explain.specs.Answers.{spaced}
use Rattle.book_questions.proofs.lines.push_names.Given as goal

-- the names so far
abbrev pub invariant-loop-name : goal.invariant-loop-name
invariant-loop-name l = string_bytes l.text ≡ string_bytes l.fn.text ++ flat_map spaced (take l.name-index l.names)
