use Rattle.book_lists_explain.proofs.Common.{◌≡◌, ◌++◌, take}
use Rattle.std.proofs.Common.{string_bytes}
use Rattle.std.specs.List.{flat_map}
use Rattle.book_lists_explain.specs.Answers.{spaced}
use Rattle.book_lists_explain.proofs.explanations.push_rest.Given as goal

-- the names so far
abbrev pub invariant-loop-name : goal.invariant-loop-name
invariant-loop-name l = string_bytes l.text ≡ string_bytes l.fn.text ++ flat_map spaced (take l.name-index l.rest)
