use Rattle.std.proofs.Common.{◌≡◌, ◌++◌, take, map}
use Rattle.book_policy_idle.specs.Marks.{path_in}
use Rattle.book_policy_idle.proofs.places.add_paths.Given as goal

abbrev pub invariant-loop-name : goal.invariant-loop-name
invariant-loop-name l = l.paths ≡ l.fn.paths ++ map (path_in l.kind) (take l.name-index l.names)
