use Rattle.std.proofs.Common.{◌≡◌, drop}
use Rattle.std.specs.List.{list_any}
use Rattle.book_dumps_restoring.specs.Restoring.{is_crowded}
use Rattle.book_dumps_restoring.proofs.room.any_crowded.Given as goal

-- a book is crowded where one of the paths to come names such a book
abbrev pub invariant-loop-path : goal.invariant-loop-path
invariant-loop-path l = list_any (is_crowded l.lines) (drop l.path-index l.paths) ≡ list_any (is_crowded l.lines) l.paths
