-- What every change of a dump has in common.
use Rattle.std.specs.Prelude.{ℕ, ◌+◌, Bool, false, List, [], ◌∷◌}
use Rattle.std.specs.List.{list_any}
use Rattle.std.specs.Str.{bytes_eq}
use Rattle.book_dumps.specs.declared.lines.Line.{Line}
use Rattle.book_lists.specs.Principals.{person_path, group_path}
use Rattle.book_office_values.specs.declared.paths.Path.{Path}
use Rattle.book_office_values.specs.declared.paths.Path.TheVariants as path

-- whether a path is that of a principal
abbrev pub is_path_of : List ℕ → Path → Bool
is_path_of principal path.Root = false
is_path_of principal path.People = false
is_path_of principal path.Groups = false
is_path_of principal path.Books = false
is_path_of principal (path.Person name) = bytes_eq (person_path name) principal
is_path_of principal (path.Group name) = bytes_eq (group_path name) principal
is_path_of principal (path.Book book) = false
is_path_of principal (path.Card book name) = false

-- whether a line is that of a principal
abbrev pub is_of : List ℕ → Line → Bool
is_of principal line = is_path_of principal line.path

-- whether a principal has a line
abbrev pub has_principal : List Line → List ℕ → Bool
has_principal lines principal = list_any (is_of principal) lines

-- an epoch is one more where something is told
abbrev pub raised : List ℕ → ℕ → ℕ
raised [] epoch = epoch
raised (byte ∷ told) epoch = epoch + 1
