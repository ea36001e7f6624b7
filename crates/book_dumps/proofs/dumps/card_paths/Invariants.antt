use Rattle.book_dumps.proofs.Common.{◌≡◌, map, take}
use Rattle.book_office_values.specs.declared.paths.Path.TheVariants as path
use Rattle.book_dumps.proofs.dumps.card_paths.Given as goal

-- the paths of the names so far
abbrev pub invariant-loop-name : goal.invariant-loop-name
invariant-loop-name l = l.paths.items ≡ map (path.Card l.book) (take l.name-index l.names)
