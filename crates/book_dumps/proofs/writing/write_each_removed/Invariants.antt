use Rattle.book_dumps.proofs.Common.{◌≡◌, map, drop}
use Rattle.book_dumps.specs.Lines.{removed_member}
use Rattle.book_dumps.specs.Objects.{told_members}
use Rattle.book_dumps.proofs.writing.write_each_removed.Given as goal

-- what is told so far, and then what follows
abbrev pub invariant-loop-name : goal.invariant-loop-name
invariant-loop-name l = told_members l.out (map removed_member (drop l.name-index l.removed)) ≡ told_members l.fn.out (map removed_member l.removed)
