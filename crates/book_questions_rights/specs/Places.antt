-- What is asked about at a path or below it: each resource that is no card, with the cards in it.
use Rattle.std.specs.Prelude.{ℕ, Bool, true, false, List, [], ◌∷◌, ◌++◌, map, filter}
use Rattle.std.specs.Str.{bytes_eq}
use Rattle.book_office.specs.InForce.{lists_in}
use Rattle.book_office.specs.Levels.{lists_at}
use Rattle.book_office.specs.Resources.{children_at}
use Rattle.book_lists.specs.declared.entries.Here.{Here}
use Rattle.book_office.specs.declared.nodes.Listed.{Listed}
use Rattle.book_office.specs.declared.nodes.Lists.{Lists}
use Rattle.book_office_values.specs.declared.offices.Office.{Office}
use Rattle.book_office_values.specs.declared.paths.Path.{Path}
use Rattle.book_office_values.specs.declared.paths.Path.TheVariants as path
use Rattle.book_office_listings.specs.Verdicts.{here_of}
use Rattle.book_questions_rights.specs.declared.places.Place.{Place}

-- the child of a home with a name; other resources have none that is no card
abbrev pub child_of : Path → List ℕ → Path
child_of path.Root n = path.Root
child_of path.People n = path.Person n
child_of path.Groups n = path.Group n
child_of path.Books n = path.Book n
child_of (path.Person m) n = path.Person m
child_of (path.Group m) n = path.Group m
child_of (path.Book b) n = path.Book b
child_of (path.Card b c) n = path.Card b c

-- a home and its children
abbrev pub home_and : Path → List Listed → List Path
home_and home children = home ∷ map (λ (child : Listed). child_of home child.name) children

abbrev pub in_home : Office → Path → List Path
in_home o home = home_and home (children_at o home)

abbrev pub root_and : List Path → List Path → List Path → List Path
root_and people groups books = path.Root ∷ (people ++ (groups ++ books))

-- a path, and each below it that is no card's
abbrev pub asked_below : Office → Path → List Path
asked_below o path.Root = root_and (in_home o path.People) (in_home o path.Groups) (in_home o path.Books)
asked_below o path.People = in_home o path.People
asked_below o path.Groups = in_home o path.Groups
asked_below o path.Books = in_home o path.Books
asked_below o (path.Person n) = path.Person n ∷ []
asked_below o (path.Group n) = path.Group n ∷ []
asked_below o (path.Book b) = path.Book b ∷ []
asked_below o (path.Card b c) = path.Card b c ∷ []

-- the resource itself; of a card its book, of which the card alone is asked about
abbrev pub place_path : Path → Path
place_path path.Root = path.Root
place_path path.People = path.People
place_path path.Groups = path.Groups
place_path path.Books = path.Books
place_path (path.Person n) = path.Person n
place_path (path.Group n) = path.Group n
place_path (path.Book b) = path.Book b
place_path (path.Card b c) = path.Book b

abbrev pub is_itself : Path → Bool
is_itself path.Root = true
is_itself path.People = true
is_itself path.Groups = true
is_itself path.Books = true
is_itself (path.Person n) = true
is_itself (path.Group n) = true
is_itself (path.Book b) = true
is_itself (path.Card b c) = false

abbrev pub is_named : List ℕ → Listed → Bool
is_named name card = bytes_eq card.name name

-- the cards that are asked about: all of a book, or the one
abbrev pub cards_of : Office → Path → List Listed
cards_of o path.Root = []
cards_of o path.People = []
cards_of o path.Groups = []
cards_of o path.Books = []
cards_of o (path.Person n) = []
cards_of o (path.Group n) = []
cards_of o (path.Book b) = children_at o (path.Book b)
cards_of o (path.Card b c) = filter (is_named c) (children_at o (path.Book b))

-- what is read at a path
abbrev pub place_with : Path → Here → Lists → List Listed → Place
place_with p here lists cards = record {
  path = place_path p;
  itself = is_itself p;
  here = here;
  protected = lists_in true lists.levels;
  own = lists_in false lists.levels;
  cards = cards;
}

abbrev pub place_of : Office → Path → Place
place_of o p = place_with p (here_of o (place_path p)) (lists_at o (place_path p)) (cards_of o p)
