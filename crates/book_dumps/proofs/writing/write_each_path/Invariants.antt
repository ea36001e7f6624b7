use Rattle.book_dumps.proofs.Common.{◌≡◌, map, drop}
use Rattle.json.specs.Json.{string}
use Rattle.book_dumps.specs.Objects.{told}
use Rattle.book_dumps.proofs.writing.write_each_path.Given as goal

-- what is told so far, and then what follows
abbrev pub invariant-loop-principal : goal.invariant-loop-principal
invariant-loop-principal l = told l.out (map string (drop l.principal-index l.principals)) ≡ told l.fn.out (map string l.principals)
