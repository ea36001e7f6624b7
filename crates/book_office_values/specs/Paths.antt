-- Paths of resources: how they are spelled, and which path is above which (own profile).
use Rattle.std.specs.Prelude.{◌≡◌, ◌⊎◌, ℕ, ◌==◌, Bool, true, ◌||◌, ◌++◌, List, [], ◌∷◌, length, slice_get, Option, Some, None, codes}
use Rattle.book_lists.specs.Names.{IsName}
use Rattle.book_lists.specs.Principals.{person_path, group_path}
use Rattle.book_office_values.specs.declared.paths.Path.{Path}
use Rattle.book_office_values.specs.declared.paths.Path.TheVariants as path
use Rattle.book_office_values.specs.declared.paths.Kind.{Kind}
use Rattle.book_office_values.specs.declared.paths.Kind.TheVariants as kind

-- the path of the book with a name
abbrev pub book_path : List ℕ → List ℕ
book_path book = codes "/books/" ++ book

-- the path of the card with a name in a book
abbrev pub card_path : List ℕ → List ℕ → List ℕ
card_path book card = book_path book ++ codes "/" ++ card

-- the text of a path, with no slash at its end but the root's
abbrev pub path_text : Path → List ℕ
path_text path.Root = codes "/"
path_text path.People = codes "/people"
path_text path.Groups = codes "/groups"
path_text path.Books = codes "/books"
path_text (path.Person name) = person_path name
path_text (path.Group name) = group_path name
path_text (path.Book name) = book_path name
path_text (path.Card book name) = card_path book name

-- the names of a path are names
abbrev pub IsPath : Path → Type 0
IsPath path.Root = Unit {0}
IsPath path.People = Unit {0}
IsPath path.Groups = Unit {0}
IsPath path.Books = Unit {0}
IsPath (path.Person name) = IsName name
IsPath (path.Group name) = IsName name
IsPath (path.Book name) = IsName name
IsPath (path.Card book name) = IsName book × IsName name

-- a path, the path above it, and so on up to the root
abbrev pub levels : Path → List Path
levels path.Root = path.Root ∷ []
levels path.People = path.People ∷ path.Root ∷ []
levels path.Groups = path.Groups ∷ path.Root ∷ []
levels path.Books = path.Books ∷ path.Root ∷ []
levels (path.Person name) = path.Person name ∷ path.People ∷ path.Root ∷ []
levels (path.Group name) = path.Group name ∷ path.Groups ∷ path.Root ∷ []
levels (path.Book name) = path.Book name ∷ path.Books ∷ path.Root ∷ []
levels (path.Card book name) = path.Card book name ∷ path.Book book ∷ path.Books ∷ path.Root ∷ []

-- the path above a path
abbrev pub parent_of : Path → Option Path
parent_of p = slice_get (levels p) 1

-- paths of one or two names, as `/people` and `/people/ann`: they have two levels, or three
abbrev pub IsShort : Path → Type 0
IsShort p = ((length (levels p) == 2) || (length (levels p) == 3)) ≡ true

-- a text spells a path: it is the path's text, or, for a path of one or two names, that text and one slash more
abbrev pub SpellsPath : List ℕ → Path → Type 0
SpellsPath text p = (text ≡ path_text p) ⊎ (IsShort p × (text ≡ path_text p ++ codes "/"))

-- a text spells no path
abbrev pub SpellsNone : List ℕ → Type 0
SpellsNone text = (p : Path) → IsPath p → SpellsPath text p → ⊥

-- the kind of the resource at a path, if there is one
abbrev pub kind_of : Path → Kind
kind_of path.Root = kind.Root
kind_of path.People = kind.Home
kind_of path.Groups = kind.Home
kind_of path.Books = kind.Home
kind_of (path.Person name) = kind.Person
kind_of (path.Group name) = kind.Group
kind_of (path.Book name) = kind.Book
kind_of (path.Card book name) = kind.Card

-- the number of a kind
abbrev pub kind_code : Kind → ℕ
kind_code kind.Root = 0
kind_code kind.Home = 1
kind_code kind.Person = 2
kind_code kind.Group = 3
kind_code kind.Book = 4
kind_code kind.Card = 5

-- whether two kinds are the same
abbrev pub is_kind : Kind → Kind → Bool
is_kind a b = kind_code a == kind_code b

-- a text spells at most one path
abbrev pub TextsSpellOnePath : Type 0
TextsSpellOnePath = (text : List ℕ) (p q : Path) → IsPath p → IsPath q → SpellsPath text p → SpellsPath text q → p ≡ q

-- different paths have different texts
abbrev pub TextsTellPaths : Type 0
TextsTellPaths = (p q : Path) → IsPath p → IsPath q → path_text p ≡ path_text q → p ≡ q

-- the levels of a path, where there is one
abbrev pub levels_of : Option Path → List Path
levels_of None = []
levels_of (Some p) = levels p

-- the levels of a path are the path and the levels of the path above it
abbrev pub LevelsGoUp : Type 0
LevelsGoUp = (p : Path) → levels p ≡ p ∷ levels_of (parent_of p)
