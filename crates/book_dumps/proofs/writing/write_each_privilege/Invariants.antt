use Rattle.book_dumps.proofs.Common.{◌≡◌, map, drop}
use Rattle.book_dumps.specs.Lines.{privilege_json}
use Rattle.book_dumps.specs.Objects.{told}
use Rattle.book_dumps.proofs.writing.write_each_privilege.Given as goal

-- what is told so far, and then what follows
abbrev pub invariant-loop-privilege : goal.invariant-loop-privilege
invariant-loop-privilege l = told l.out (map privilege_json (drop l.privilege-index l.privileges)) ≡ told l.fn.out (map privilege_json l.privileges)
