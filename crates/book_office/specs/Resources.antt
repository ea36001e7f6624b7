-- What an Office has at a path.
use Rattle.std.specs.Prelude.{ℕ, Bool, List, [], ◌∷◌, map, filter, codes, is_some, Option, Some, None, option_map, option_and_then, unwrap_or}
use Rattle.std.specs.FinMap.{get, len, entries}
use Rattle.book_lists.specs.declared.entries.Entry.{Entry}
use Rattle.book_office.specs.declared.nodes.Changed.{Changed}
use Rattle.book_office.specs.declared.nodes.Listed.{Listed}
use Rattle.book_office.specs.declared.nodes.Node.{Node}
use Rattle.book_office_values.specs.Changes.{Change, changes_after}
use Rattle.book_office_values.specs.declared.offices.Book.{Book}
use Rattle.book_office_values.specs.declared.offices.StoredCard.{StoredCard}
use Rattle.book_office_values.specs.declared.offices.Office.{Office}
use Rattle.book_office_values.specs.declared.offices.Properties.{Properties}
use Rattle.book_office_values.specs.declared.paths.Kind.{Kind}
use Rattle.book_office_values.specs.declared.paths.Kind.TheVariants as kind
use Rattle.book_office_values.specs.declared.paths.Path.{Path}
use Rattle.book_office_values.specs.declared.paths.Path.TheVariants as path

-- a resource
pub record Resource : Type 0 where
  pub kind : Kind
  pub owner : Option (List ℕ)
  pub label : List ℕ
  pub text : Option (List ℕ)
  pub number : ℕ
  pub protected : List Entry
  pub own : List Entry

abbrev pub properties_resource : Kind → ℕ → Properties → Resource
properties_resource k number properties = record { kind = k; owner = properties.owner; label = properties.label; text = None; number = number; protected = properties.protected; own = properties.own }

abbrev pub book_resource : Book → Resource
book_resource book = properties_resource kind.Book book.changes.number book.properties

-- cards alone have texts, and have no protected entries
abbrev pub card_resource : ℕ → StoredCard → Resource
card_resource number card = record { kind = kind.Card; owner = card.owner; label = card.label; text = Some card.text; number = number; protected = []; own = card.own }

-- the number of a name's last change, 0 if it never changed
abbrev pub number_of : Book → List ℕ → ℕ
number_of book name = unwrap_or (get book.changes.last name) 0

abbrev pub card_at : Office → List ℕ → List ℕ → Option StoredCard
card_at o b c = option_and_then (λ (book : Book). get book.cards c) (get o.books b)

-- the resource that a name has in a book
abbrev pub card_in : Book → List ℕ → Option Resource
card_in book c = option_map (card_resource (number_of book c)) (get book.cards c)

-- what is kept at a path that is no card's
abbrev pub properties_at : Office → Path → Option Properties
properties_at o path.Root = Some o.root
properties_at o path.People = Some o.people
properties_at o path.Groups = Some o.groups_home
properties_at o path.Books = Some o.books_home
properties_at o (path.Person n) = get o.persons n
properties_at o (path.Group n) = get o.groups n
properties_at o (path.Book b) = option_map (λ (book : Book). book.properties) (get o.books b)
properties_at o (path.Card b c) = None

-- the resource at a path: the finite map that an Office is
abbrev pub resource_at : Office → Path → Option Resource
resource_at o path.Root = Some (properties_resource kind.Root 0 o.root)
resource_at o path.People = Some (properties_resource kind.Home 0 o.people)
resource_at o path.Groups = Some (properties_resource kind.Home 0 o.groups_home)
resource_at o path.Books = Some (properties_resource kind.Home 0 o.books_home)
resource_at o (path.Person n) = option_map (properties_resource kind.Person 0) (get o.persons n)
resource_at o (path.Group n) = option_map (properties_resource kind.Group 0) (get o.groups n)
resource_at o (path.Book b) = option_map book_resource (get o.books b)
resource_at o (path.Card b c) = option_and_then (λ (book : Book). card_in book c) (get o.books b)

-- a name that has a last change and no card is removed
abbrev pub unless_mapped : Option StoredCard → Option ℕ → Option ℕ
unless_mapped None number = number
unless_mapped (Some card) number = None

-- the numbers of a book's removed names
abbrev pub removed_at : Office → List ℕ → List ℕ → Option ℕ
removed_at o b name = option_and_then (λ (book : Book). unless_mapped (get book.cards name) (get book.changes.last name)) (get o.books b)

-- how many children of a path are mapped
abbrev pub count_at : Office → Path → ℕ
count_at o path.Root = 3
count_at o path.People = len o.persons
count_at o path.Groups = len o.groups
count_at o path.Books = len o.books
count_at o (path.Person n) = 0
count_at o (path.Group n) = 0
count_at o (path.Book b) = unwrap_or (option_map (λ (book : Book). len book.cards) (get o.books b)) 0
count_at o (path.Card b c) = 0

-- a resource without its lists
abbrev pub node_of : Resource → Node
node_of r = record { kind = r.kind; owner = r.owner; label = r.label; text = r.text; number = r.number }

abbrev pub node_at : Office → Path → Option Node
node_at o p = option_map node_of (resource_at o p)

-- a resource of which no number is told
abbrev pub unnumbered : Node → Node
unnumbered n = record n { number = 0 }

-- a child in a listing: a resource without its text
abbrev pub as_listed : List ℕ → Resource → Listed
as_listed name r = record { name = name; kind = r.kind; owner = r.owner; label = r.label; number = r.number; protected = r.protected; own = r.own }

abbrev pub listed_home : List ℕ → Properties → Listed
listed_home name home = as_listed name (properties_resource kind.Home 0 home)

abbrev pub listed_homes : Office → List Listed
listed_homes o =
    listed_home (codes "books") o.books_home
    ∷ listed_home (codes "groups") o.groups_home
    ∷ listed_home (codes "people") o.people ∷ []

abbrev pub listed_principals : Kind → List (List ℕ × Properties) → List Listed
listed_principals k principals = map (λ e. as_listed e.0 (properties_resource k 0 e.1)) principals

abbrev pub listed_books : List (List ℕ × Book) → List Listed
listed_books books = map (λ e. as_listed e.0 (book_resource e.1)) books

abbrev pub listed_of_book : Book → List (List ℕ × StoredCard) → List Listed
listed_of_book book cards = map (λ e. as_listed e.0 (card_resource (number_of book e.0) e.1)) cards

abbrev pub listed_cards : Book → List Listed
listed_cards book = listed_of_book book (entries book.cards)

-- the children of a resource, in byte order of their names
abbrev pub children_at : Office → Path → List Listed
children_at o path.Root = listed_homes o
children_at o path.People = listed_principals kind.Person (entries o.persons)
children_at o path.Groups = listed_principals kind.Group (entries o.groups)
children_at o path.Books = listed_books (entries o.books)
children_at o (path.Person n) = []
children_at o (path.Group n) = []
children_at o (path.Book b) = unwrap_or (option_map listed_cards (get o.books b)) []
children_at o (path.Card b c) = []

-- last changes, each with the card that has the name
abbrev pub changed_in : Book → List Change → List Changed
changed_in book changes = map (λ (c : Change). record { number = c.0; name = c.1; card = get book.cards c.1 }) changes

-- the last changes of a book above a number, in order of number
abbrev pub changed_after : Office → List ℕ → ℕ → List Changed
changed_after o b n = unwrap_or (option_map (λ (book : Book). changed_in book (changes_after book.changes.last n)) (get o.books b)) []

-- whether the name of a change has a card
abbrev pub is_of_card : Changed → Bool
is_of_card change = is_some change.card

-- of the last changes of a book above a number, those of names that have a card, in order of number
abbrev pub cards_after : Office → List ℕ → ℕ → List Changed
cards_after o b n = filter is_of_card (changed_after o b n)
