-- What a wanted line of a backup makes of what stands at each path, and what is told of it (own profile).
use Rattle.std.specs.Prelude.{ℕ, ◌+◌, ◌-◌, ◌^◌, min, Bool, not, List, [], ◌∷◌, ◌++◌, codes, decimal, filter, Option, Some, None}
use Rattle.std.specs.FinMap.{get, insert}
use Rattle.std.specs.Str.{bytes_eq}
use Rattle.book_dumps.specs.declared.lines.Line.{Line}
use Rattle.book_dumps.specs.declared.lines.Removed.{Removed}
use Rattle.book_office_values.specs.Names.{changed_at}
use Rattle.book_office_values.specs.Paths.{book_path, path_text}
use Rattle.book_office_values.specs.declared.paths.Path.{Path}
use Rattle.book_office_values.specs.declared.paths.Path.TheVariants as path
use Rattle.book_dumps_restoring.specs.Standing.{Standing, at, put}

-- ---- books
-- a book of the backup over what stands at its path: what the store has keeps its protected list, its number and its removed names
abbrev pub book_over : Option Line → Line → Line
book_over (Some old) line = record old { owner = line.owner; label = line.label; own = line.own }
book_over None line = record {
  path = line.path;
  owner = line.owner;
  label = line.label;
  protected = line.protected;
  own = line.own;
  members = [];
  number = Some 0;
  removed = [];
  text = None;
}

abbrev pub put_book : Standing → Line → Standing
put_book standing line = insert standing (path_text line.path) (book_over (at standing line.path) line)

-- ---- cards
-- the number after that of a book; a number stays at the last of 64 bits
abbrev pub number_after : Option ℕ → ℕ
number_after None = 1
number_after (Some number) = min (number + 1) (2 ^ 64 - 1)

abbrev pub next_number : Option Line → ℕ
next_number None = 1
next_number (Some book) = number_after book.number

abbrev pub is_other_name : List ℕ → Removed → Bool
is_other_name name removed = not (bytes_eq removed.name name)

-- a book after one more change, of a card that is there then
abbrev pub counted : List ℕ → Line → Line
counted card book = record book { number = Some (number_after book.number); removed = filter (is_other_name card) book.removed }

abbrev pub counted_in : Standing → List ℕ → List ℕ → Standing
counted_in standing book card = changed_at (counted card) standing (book_path book)

-- a card of the backup with a number of the store
abbrev pub card_with : ℕ → Line → Line
card_with number line = record {
  path = line.path;
  owner = line.owner;
  label = line.label;
  protected = [];
  own = line.own;
  members = [];
  number = Some number;
  removed = [];
  text = line.text;
}

abbrev pub put_card : Standing → List ℕ → List ℕ → Line → Standing
put_card standing book card line = put (counted_in standing book card) (card_with (next_number (get standing (book_path book))) line)

-- ---- lines
abbrev pub put_at : Path → Standing → Line → Standing
put_at path.Root standing line = standing
put_at path.People standing line = standing
put_at path.Groups standing line = standing
put_at path.Books standing line = standing
put_at (path.Person name) standing line = standing
put_at (path.Group name) standing line = standing
put_at (path.Book book) standing line = put_book standing line
put_at (path.Card book card) standing line = put_card standing book card line

abbrev pub put_line : Standing → Line → Standing
put_line standing line = put_at line.path standing line

-- one after the other
abbrev pub put_lines : Standing → List Line → Standing
put_lines standing [] = standing
put_lines standing (line ∷ lines) = put_lines (put_line standing line) lines

-- ---- what is told
-- book PATH
abbrev pub told_book : Path → List ℕ
told_book at = codes "book " ++ (path_text at ++ codes "\n")

-- card PATH number N
abbrev pub told_card : Path → ℕ → List ℕ
told_card at number = codes "card " ++ (path_text at ++ (codes " number " ++ (decimal number ++ codes "\n")))

abbrev pub told_at : Path → Standing → Line → List ℕ
told_at path.Root standing line = []
told_at path.People standing line = []
told_at path.Groups standing line = []
told_at path.Books standing line = []
told_at (path.Person name) standing line = []
told_at (path.Group name) standing line = []
told_at (path.Book book) standing line = told_book line.path
told_at (path.Card book card) standing line = told_card line.path (next_number (get standing (book_path book)))

abbrev pub told_line : Standing → Line → List ℕ
told_line standing line = told_at line.path standing line

abbrev pub told_lines : Standing → List Line → List ℕ
told_lines standing [] = []
told_lines standing (line ∷ lines) = told_line standing line ++ told_lines (put_line standing line) lines
