-- Which resources of a backup paths name: cards, and books with their cards (own profile).
use Rattle.std.specs.Prelude.{ℕ, Bool, false, ◌&&◌, ◌||◌, List, filter}
use Rattle.std.specs.List.{list_all, list_any}
use Rattle.std.specs.Str.{bytes_eq}
use Rattle.book_dumps.specs.declared.lines.Line.{Line}
use Rattle.book_office_values.specs.declared.paths.Path.{Path}
use Rattle.book_office_values.specs.declared.paths.Path.TheVariants as path

-- whether a path is that of a book
abbrev pub is_book : List ℕ → Path → Bool
is_book book path.Root = false
is_book book path.People = false
is_book book path.Groups = false
is_book book path.Books = false
is_book book (path.Person name) = false
is_book book (path.Group name) = false
is_book book (path.Book other) = bytes_eq other book
is_book book (path.Card other card) = false

-- whether a path is that of a card of a book
abbrev pub is_card_in : List ℕ → Path → Bool
is_card_in book path.Root = false
is_card_in book path.People = false
is_card_in book path.Groups = false
is_card_in book path.Books = false
is_card_in book (path.Person name) = false
is_card_in book (path.Group name) = false
is_card_in book (path.Book other) = false
is_card_in book (path.Card other card) = bytes_eq other book

-- whether a path is that of one card
abbrev pub is_card : List ℕ → List ℕ → Path → Bool
is_card book card path.Root = false
is_card book card path.People = false
is_card book card path.Groups = false
is_card book card path.Books = false
is_card book card (path.Person name) = false
is_card book card (path.Group name) = false
is_card book card (path.Book other) = false
is_card book card (path.Card other name) = bytes_eq other book && bytes_eq name card

-- whether a path is the card or the book at another path
abbrev pub is_at : Path → Path → Bool
is_at path.Root at = false
is_at path.People at = false
is_at path.Groups at = false
is_at path.Books at = false
is_at (path.Person name) at = false
is_at (path.Group name) at = false
is_at (path.Book book) at = is_book book at
is_at (path.Card book card) at = is_card book card at

-- whether a path names what stands at another: a card, or a book and its cards
abbrev pub names : Path → Path → Bool
names path.Root at = false
names path.People at = false
names path.Groups at = false
names path.Books at = false
names (path.Person name) at = false
names (path.Group name) at = false
names (path.Book book) at = is_book book at || is_card_in book at
names (path.Card book card) at = is_card book card at

-- what is named is wanted
abbrev pub is_wanted : List Path → Path → Bool
is_wanted paths at = list_any (λ (path : Path). names path at) paths

abbrev pub is_wanted_line : List Path → Line → Bool
is_wanted_line paths line = is_wanted paths line.path

-- the lines of a backup that are wanted, in its order, which is the byte order of the paths
abbrev pub wanted : List Line → List Path → List Line
wanted lines paths = filter (is_wanted_line paths) lines

-- a path names a card or a book that has a line
abbrev pub is_found : List Line → Path → Bool
is_found lines path = list_any (λ (line : Line). is_at path line.path) lines

abbrev pub are_found : List Line → List Path → Bool
are_found lines paths = list_all (is_found lines) paths

-- a book is named
abbrev pub is_named : List Path → List ℕ → Bool
is_named paths book = list_any (is_book book) paths
