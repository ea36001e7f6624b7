-- Cards and books that pass from one owner to another (RFC 3744, section 5.1).
use Rattle.std.specs.Prelude.{ℕ, Bool, false, true, not, ◌&&◌, if◌then◌else◌, List, [], ◌++◌, map, codes, Option, Some, None, is_some}
use Rattle.std.specs.List.{flat_map, list_any}
use Rattle.std.specs.Str.{bytes_eq}
use Rattle.book_dumps.specs.declared.lines.Line.{Line}
use Rattle.book_dumps_reading.specs.declared.dumped.Dumped.{Dumped}
use Rattle.book_office_values.specs.Paths.{path_text}
use Rattle.book_office_values.specs.declared.paths.Path.{Path}
use Rattle.book_office_values.specs.declared.paths.Path.TheVariants as path
use Rattle.book_dumps_changes.specs.Changing.{raised}
use Rattle.book_dumps_changes.specs.declared.changed.Changed.{Changed}

-- whether a book is the one that is given, if one is
abbrev pub in_book : Option (List ℕ) → List ℕ → Bool
in_book None book = true
in_book (Some wanted) book = bytes_eq wanted book

-- whether a path is that of a book
abbrev pub is_path_of_book : List ℕ → Path → Bool
is_path_of_book book path.Root = false
is_path_of_book book path.People = false
is_path_of_book book path.Groups = false
is_path_of_book book path.Books = false
is_path_of_book book (path.Person name) = false
is_path_of_book book (path.Group name) = false
is_path_of_book book (path.Book name) = bytes_eq name book
is_path_of_book book (path.Card home name) = false

abbrev pub is_of_book : List ℕ → Line → Bool
is_of_book book line = is_path_of_book book line.path

abbrev pub has_line_of : List Line → List ℕ → Bool
has_line_of lines book = list_any (is_of_book book) lines

-- whether the book that is given has a line, if one is given
abbrev pub has_book : List Line → Option (List ℕ) → Bool
has_book lines None = true
has_book lines (Some book) = has_line_of lines book

-- whether what stands at a path may pass: a card of the book that is given; each card and each book where none is
abbrev pub may_pass : Option (List ℕ) → Path → Bool
may_pass at path.Root = false
may_pass at path.People = false
may_pass at path.Groups = false
may_pass at path.Books = false
may_pass at (path.Person name) = false
may_pass at (path.Group name) = false
may_pass at (path.Book book) = not (is_some at)
may_pass at (path.Card book name) = in_book at book

abbrev pub is_owner : List ℕ → Option (List ℕ) → Bool
is_owner from None = false
is_owner from (Some owner) = bytes_eq owner from

-- whether a resource passes: it may, and its owner is the one from whom
abbrev pub passes : List ℕ → Option (List ℕ) → Line → Bool
passes from at line = may_pass at line.path && is_owner from line.owner

-- a resource that passes has the other owner, and is else as it was
abbrev pub passed : List ℕ → List ℕ → Option (List ℕ) → Line → Line
passed from to at line = if passes from at line then record line { owner = Some to } else line

-- owner PATH FROM -> TO
abbrev pub owner_line : Path → List ℕ → List ℕ → List ℕ
owner_line at from to = codes "owner " ++ (path_text at ++ (codes " " ++ (from ++ (codes " -> " ++ (to ++ codes "\n")))))

-- what is told of a resource
abbrev pub told_passing : List ℕ → List ℕ → Option (List ℕ) → Line → List ℕ
told_passing from to at line = if passes from at line then owner_line line.path from to else []

-- what is told of resources
abbrev pub told_owners : List ℕ → List ℕ → Option (List ℕ) → List Line → List ℕ
told_owners from to at lines = flat_map (told_passing from to at) lines

-- every resource that passes has the other owner; the epoch is one more where one does
abbrev pub with_owner : List ℕ → List ℕ → Option (List ℕ) → Dumped → Changed
with_owner from to at dumped = record {
  dumped = record { epoch = raised (told_owners from to at dumped.lines) dumped.epoch; lines = map (passed from to at) dumped.lines };
  told = told_owners from to at dumped.lines;
}
