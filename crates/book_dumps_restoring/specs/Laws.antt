-- What stays as it was, and what becomes the backup's, when resources are restored.
use Rattle.std.specs.Prelude.{◌≡◌, ◌≢◌, ◌⊎◌, ℕ, List, ◌∷◌, ◌++◌, map, Option, Some, None}
use Rattle.std.specs.List.{AllByRecursion}
use Rattle.std.specs.List.Sorted.{IsStrictlySortedBy}
use Rattle.book_dumps.specs.declared.lines.Line.{Line}
use Rattle.book_dumps.specs.declared.lines.Removed.{Removed}
use Rattle.book_dumps_reading.specs.declared.dumped.Dumped.{Dumped}
use Rattle.book_lists.specs.Principals.{path_cmp}
use Rattle.book_office_values.specs.Paths.{IsPath, path_text}
use Rattle.book_office_values.specs.declared.paths.Path.{Path}
use Rattle.book_office_values.specs.declared.paths.Path.TheVariants as path
use Rattle.book_dumps_restoring.specs.Naming.{wanted}
use Rattle.book_dumps_restoring.specs.Restoring.{restored_standing, store_standing}
use Rattle.book_dumps_restoring.specs.Standing.{at, lines_of}

-- the paths of lines are paths: their names are names
abbrev pub ArePaths : List Line → Type 0
ArePaths lines = AllByRecursion (λ (line : Line). IsPath line.path) lines

-- ---- what stays
-- a restored resource reaches its own path, and a card that of its book
abbrev pub Reaches : Path → Path → Type 0
Reaches path.Root q = q ≡ path.Root
Reaches path.People q = q ≡ path.People
Reaches path.Groups q = q ≡ path.Groups
Reaches path.Books q = q ≡ path.Books
Reaches (path.Person name) q = q ≡ path.Person name
Reaches (path.Group name) q = q ≡ path.Group name
Reaches (path.Book book) q = q ≡ path.Book book
Reaches (path.Card book card) q = (q ≡ path.Card book card) ⊎ (q ≡ path.Book book)

-- at a path that no wanted resource reaches the same stands as before
abbrev pub OthersStay : Type 0
OthersStay = (store backup : Dumped) (paths : List Path) (q : Path) → ArePaths (wanted backup.lines paths) → IsPath q
    → AllByRecursion (λ (line : Line). Reaches line.path q → ⊥) (wanted backup.lines paths)
    → at (restored_standing store backup paths) q ≡ at (store_standing store) q

-- a line but for its number and its removed names
abbrev pub StaysButCounts : Option Line → Option Line → Type 0
StaysButCounts None after = after ≡ None
StaysButCounts (Some old) after = (number : Option ℕ) × (removed : List Removed) × (after ≡ Some (record old { number = number; removed = removed }))

-- at a path that is not that of a wanted resource the same stands as before, but for the number and the removed names of a book
abbrev pub BooksOfCardsStay : Type 0
BooksOfCardsStay = (store backup : Dumped) (paths : List Path) (q : Path) → ArePaths (wanted backup.lines paths) → IsPath q
    → AllByRecursion (λ (line : Line). q ≢ line.path) (wanted backup.lines paths)
    → StaysButCounts (at (store_standing store) q) (at (restored_standing store backup paths) q)

-- ---- what becomes the backup's
-- books and cards
abbrev pub IsRestorable : Path → Type 0
IsRestorable path.Root = ⊥
IsRestorable path.People = ⊥
IsRestorable path.Groups = ⊥
IsRestorable path.Books = ⊥
IsRestorable (path.Person name) = ⊥
IsRestorable (path.Group name) = ⊥
IsRestorable (path.Book book) = Unit {0}
IsRestorable (path.Card book card) = Unit {0}

-- the text of a card is that of the line
abbrev pub IsTextOf : Path → Line → Line → Type 0
IsTextOf path.Root line after = Unit {0}
IsTextOf path.People line after = Unit {0}
IsTextOf path.Groups line after = Unit {0}
IsTextOf path.Books line after = Unit {0}
IsTextOf (path.Person name) line after = Unit {0}
IsTextOf (path.Group name) line after = Unit {0}
IsTextOf (path.Book book) line after = Unit {0}
IsTextOf (path.Card book card) line after = after.text ≡ line.text

pub record IsTheBackups (line after : Line) : Type 0 where
  pub owner : after.owner ≡ line.owner
  pub label : after.label ≡ line.label
  pub own : after.own ≡ line.own
  pub text : IsTextOf line.path line after

-- at the path of each wanted card and book stands its owner, its label, its own list and a card's text, as the last line of that path
-- in the backup has them
abbrev pub WantedAreTheBackups : Type 0
WantedAreTheBackups = (store backup : Dumped) (paths : List Path) (front back : List Line) (line : Line)
    → wanted backup.lines paths ≡ front ++ line ∷ back → ArePaths (line ∷ back) → IsRestorable line.path
    → AllByRecursion (λ (later : Line). line.path ≢ later.path) back
    → (after : Line) × (at (restored_standing store backup paths) line.path ≡ Some after) × IsTheBackups line after

-- ---- the order
-- each line stands at its own path, and they stand in byte order of their paths, each path once
abbrev pub LinesStandInOrder : Type 0
LinesStandInOrder = (store backup : Dumped) (paths : List Path)
    → IsStrictlySortedBy path_cmp (map (λ (line : Line). path_text line.path) (lines_of (restored_standing store backup paths)))
