use Rattle.std.proofs.Common.{map, take}
use Rattle.std.specs.List.{AllZip}
use Rattle.std.specs.String.{string_bytes}
use Rattle.book_office_values.specs.Paths.{SpellsPath}
use Rattle.book_desk_keeping.proofs.restores.paths_of.Given as goal

-- the texts so far spell the paths so far
abbrev pub invariant-loop-text : goal.invariant-loop-text
invariant-loop-text l = AllZip SpellsPath (map string_bytes (take l.text-index l.texts)) l.paths
