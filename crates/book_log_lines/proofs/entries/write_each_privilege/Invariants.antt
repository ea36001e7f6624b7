use Rattle.book_log_lines.proofs.Common.{◌≡◌, map, drop}
use Rattle.book_json_lines.specs.Objects.{told}
use Rattle.book_log_lines.specs.Lines.{privilege_json}
use Rattle.book_log_lines.proofs.entries.write_each_privilege.Given as goal

-- what is told so far, and then what follows
abbrev pub invariant-loop-privilege : goal.invariant-loop-privilege
invariant-loop-privilege l = told l.out (map privilege_json (drop l.privilege-index l.privileges)) ≡ told l.fn.out (map privilege_json l.privileges)
