-- The card, the book or the group that a path names.
use Rattle.std.specs.Prelude.{ℕ, List, Option, Some, None}
use Rattle.book_office_values.specs.declared.paths.Path.{Path}
use Rattle.book_office_values.specs.declared.paths.Path.TheVariants as path

-- the names of a card and of its book, the book's first
abbrev pub path_card : Path → Option (List ℕ × List ℕ)
path_card path.Root = None
path_card path.People = None
path_card path.Groups = None
path_card path.Books = None
path_card (path.Person n) = None
path_card (path.Group n) = None
path_card (path.Book b) = None
path_card (path.Card b c) = Some (b, c)

abbrev pub path_book : Path → Option (List ℕ)
path_book path.Root = None
path_book path.People = None
path_book path.Groups = None
path_book path.Books = None
path_book (path.Person n) = None
path_book (path.Group n) = None
path_book (path.Book b) = Some b
path_book (path.Card b c) = None

abbrev pub path_group : Path → Option (List ℕ)
path_group path.Root = None
path_group path.People = None
path_group path.Groups = None
path_group path.Books = None
path_group (path.Person n) = None
path_group (path.Group n) = Some n
path_group (path.Book b) = None
path_group (path.Card b c) = None
