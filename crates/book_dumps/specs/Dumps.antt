-- The Office as text (own profile): a line for each resource, in byte order of the paths.
use Rattle.std.specs.Prelude.{ℕ, ◌^◌, ◌-◌, min, List, [], ◌∷◌, ◌++◌, map, codes, length}
use Rattle.std.specs.FinMap.{empty, insert, values}
use Rattle.std.specs.List.{concat, flat_map}
use Rattle.book_office.specs.Resources.{children_at}
use Rattle.book_office.specs.declared.nodes.Listed.{Listed}
use Rattle.book_office_values.specs.Names.{NamesTo}
use Rattle.book_office_values.specs.declared.offices.Office.{Office}
use Rattle.book_office_values.specs.declared.paths.Path.{Path}
use Rattle.book_office_values.specs.declared.paths.Path.TheVariants as path
use Rattle.book_dumps.specs.Objects.{single_json, text_line}
use Rattle.book_dumps.specs.Told.{texts_at}
use Rattle.book_dumps.specs.declared.places.Place.{Place}
use Rattle.book_dumps.specs.declared.places.Place.TheVariants.{Whole, Cards}

-- the names of the children of a resource, in byte order
abbrev pub names_at : Office → Path → List (List ℕ)
names_at o p = map (λ (child : Listed). child.name) (children_at o p)

-- Where a book and its cards stand: the book at its name, and its cards at its name and a slash, with which their paths
-- go on. So another book may stand between a book and its cards: `/books/a-b` comes before `/books/a/x`.
abbrev pub with_book : NamesTo Place → List ℕ → NamesTo Place
with_book places b = insert (insert places b (Whole b)) (b ++ codes "/") (Cards b)

abbrev pub with_books : NamesTo Place → List (List ℕ) → NamesTo Place
with_books places [] = places
with_books places (b ∷ bs) = with_books (with_book places b) bs

-- the books and their cards, in byte order of the paths
abbrev pub places_of : Office → List Place
places_of o = values (with_books empty (names_at o path.Books))

abbrev pub paths_in : Office → Place → List Path
paths_in o (Whole b) = path.Book b ∷ []
paths_in o (Cards b) = map (path.Card b) (names_at o (path.Book b))

-- the home of the groups, the groups, the home of the persons and the persons
abbrev pub after_books : Office → List Path
after_books o =
    path.Groups ∷ (map path.Group (names_at o path.Groups) ++ (path.People ∷ map path.Person (names_at o path.People)))

-- the paths of all resources, in byte order
abbrev pub paths_of : Office → List Path
paths_of o = path.Root ∷ path.Books ∷ (flat_map (paths_in o) (places_of o) ++ after_books o)

-- {"epoch":N}
abbrev pub epoch_line : ℕ → List ℕ
epoch_line n = text_line (single_json (codes "epoch") n)

-- {"lines":N}
abbrev pub last_line : ℕ → List ℕ
last_line n = text_line (single_json (codes "lines") n)

-- the lines of the resources at paths
abbrev pub lines_at : Office → List Path → List (List ℕ)
lines_at o paths = flat_map (texts_at o) paths

-- all lines but the last
abbrev pub lines_of : Office → List (List ℕ)
lines_of o = epoch_line o.epoch ∷ lines_at o (paths_of o)

-- a count of lines, which stays at its last value
abbrev pub counted : ℕ → ℕ
counted n = min n (2 ^ 64 - 1)

-- the epoch, each resource, and how many lines these are
abbrev pub dump_text : Office → List ℕ
dump_text o = concat (lines_of o) ++ last_line (counted (length (lines_of o)))
