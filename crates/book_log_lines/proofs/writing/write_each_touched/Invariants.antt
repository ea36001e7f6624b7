use Rattle.book_log_lines.proofs.Common.{◌≡◌, map, drop}
use Rattle.book_json_lines.specs.Objects.{told}
use Rattle.book_log_lines.specs.Lines.{touched_json}
use Rattle.book_log_lines.proofs.writing.write_each_touched.Given as goal

-- what is told so far, and then what follows
abbrev pub invariant-loop-each : goal.invariant-loop-each
invariant-loop-each l = told l.out (map touched_json (drop l.each-index l.touched)) ≡ told l.fn.out (map touched_json l.touched)
