use Rattle.book_dumps.proofs.Common.{◌≡◌, map, drop}
use Rattle.book_dumps.specs.Lines.{entry_json}
use Rattle.book_dumps.specs.Objects.{told}
use Rattle.book_dumps.proofs.writing.write_each_entry.Given as goal

-- what is told so far, and then what follows
abbrev pub invariant-loop-entry : goal.invariant-loop-entry
invariant-loop-entry l = told l.out (map entry_json (drop l.entry-index l.entries)) ≡ told l.fn.out (map entry_json l.entries)
