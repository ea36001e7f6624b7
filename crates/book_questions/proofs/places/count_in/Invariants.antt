use Rattle.book_questions.proofs.Common.{◌≡◌, take}
use Rattle.std.specs.List.{count_by}
use Rattle.book_questions.specs.Lines.{stands_in}
use Rattle.book_questions.proofs.places.count_in.Given as goal

-- those so far that stand in the list are counted
abbrev pub invariant-loop-entry : goal.invariant-loop-entry
invariant-loop-entry l = l.count ≡ count_by (stands_in l.place l.protected) (take l.entry-index l.entries)
