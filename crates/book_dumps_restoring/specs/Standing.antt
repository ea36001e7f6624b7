-- What stands at each path: the lines of a dump by the texts of their paths, in byte order.
use Rattle.std.specs.Prelude.{ℕ, Bool, List, [], ◌∷◌, Option, is_some}
use Rattle.std.specs.FinMap.{empty, get, insert, values}
use Rattle.book_dumps.specs.declared.lines.Line.{Line}
use Rattle.book_office_values.specs.Names.{NamesTo}
use Rattle.book_office_values.specs.Paths.{path_text}
use Rattle.book_office_values.specs.declared.paths.Path.{Path}

abbrev pub Standing : Type 0
Standing = NamesTo Line

-- what stands at a path, if anything does
abbrev pub at : Standing → Path → Option Line
at standing path = get standing (path_text path)

-- a line stands at its path
abbrev pub put : Standing → Line → Standing
put standing line = insert standing (path_text line.path) line

abbrev pub put_each : Standing → List Line → Standing
put_each standing [] = standing
put_each standing (line ∷ lines) = put_each (put standing line) lines

-- what stands at each path, from lines
abbrev pub placed : List Line → Standing
placed lines = put_each empty lines

-- whether something stands at the path with a text
abbrev pub is_there : Standing → List ℕ → Bool
is_there standing text = is_some (get standing text)

-- the lines, in byte order of their paths
abbrev pub lines_of : Standing → List Line
lines_of standing = values standing
