-- What is told of a text that is no dump (own profile).
use Rattle.std.specs.Prelude.{ℕ, List, [], ◌++◌, codes, decimal, Option, None, Some}
use Rattle.book_dumps_reading.specs.declared.faults.Key.{Key}
use Rattle.book_dumps_reading.specs.declared.faults.Key.TheVariants.{Epoch, Path, Owner, Label, Protected, Own, Members, Number, Removed, Text, Lines}
use Rattle.book_dumps_reading.specs.declared.faults.LineFault.{LineFault}
use Rattle.book_dumps_reading.specs.declared.faults.LineProblem.{LineProblem}
use Rattle.book_dumps_reading.specs.declared.faults.LineProblem.TheVariants.{BadLine, BadName, Order, UnknownPrincipal, TooMany, TooLong, LastLine}

abbrev pub problem_name : LineProblem → List ℕ
problem_name BadLine = codes "bad-line"
problem_name BadName = codes "bad-name"
problem_name Order = codes "order"
problem_name UnknownPrincipal = codes "unknown-principal"
problem_name TooMany = codes "too-many"
problem_name TooLong = codes "too-long"
problem_name LastLine = codes "last-line"

abbrev pub key_name : Key → List ℕ
key_name Epoch = codes "epoch"
key_name Path = codes "path"
key_name Owner = codes "owner"
key_name Label = codes "label"
key_name Protected = codes "protected"
key_name Own = codes "own"
key_name Members = codes "members"
key_name Number = codes "number"
key_name Removed = codes "removed"
key_name Text = codes "text"
key_name Lines = codes "lines"

-- the second line, where there is a key
abbrev pub key_line : Option Key → List ℕ
key_line None = []
key_line (Some key) = codes "\nkey: " ++ key_name key

-- line N: NAME
abbrev pub fault_text : LineFault → List ℕ
fault_text fault = codes "line " ++ decimal fault.line ++ codes ": " ++ problem_name fault.problem ++ key_line fault.key
