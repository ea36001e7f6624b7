-- No name of a key has more than 16 bytes, and no name of what is wrong more than 32.
use Rattle.std.proofs.Common.{◌≤◌, length, lit≤}
use Rattle.book_dumps_reading.specs.Faults.{key_name, problem_name}
use Rattle.book_dumps_reading.specs.declared.faults.Key.{Key}
use Rattle.book_dumps_reading.specs.declared.faults.Key.TheVariants.{Epoch, Path, Owner, Label, Protected, Own, Members, Number, Removed, Text, Lines}
use Rattle.book_dumps_reading.specs.declared.faults.LineProblem.{LineProblem}
use Rattle.book_dumps_reading.specs.declared.faults.LineProblem.TheVariants.{BadLine, BadName, Order, UnknownPrincipal, TooMany, TooLong, LastLine}

pub keys_are_short : (key : Key) → length (key_name key) ≤ 16
keys_are_short Epoch = lit≤ tt
keys_are_short Path = lit≤ tt
keys_are_short Owner = lit≤ tt
keys_are_short Label = lit≤ tt
keys_are_short Protected = lit≤ tt
keys_are_short Own = lit≤ tt
keys_are_short Members = lit≤ tt
keys_are_short Number = lit≤ tt
keys_are_short Removed = lit≤ tt
keys_are_short Text = lit≤ tt
keys_are_short Lines = lit≤ tt

pub problems_are_short : (problem : LineProblem) → length (problem_name problem) ≤ 32
problems_are_short BadLine = lit≤ tt
problems_are_short BadName = lit≤ tt
problems_are_short Order = lit≤ tt
problems_are_short UnknownPrincipal = lit≤ tt
problems_are_short TooMany = lit≤ tt
problems_are_short TooLong = lit≤ tt
problems_are_short LastLine = lit≤ tt
