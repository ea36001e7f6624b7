-- All facts that an Office leaves open, in one order (own profile).
use Rattle.std.specs.Prelude.{◌≡◌, List, [], ◌∷◌, ◌++◌, map}
use Rattle.book_office.specs.Resources.{children_at}
use Rattle.book_office.specs.declared.nodes.Listed.{Listed}
use Rattle.book_office_values.specs.declared.offices.Office.{Office}
use Rattle.book_office_values.specs.declared.paths.Path.{Path}
use Rattle.book_office_values.specs.declared.paths.Path.TheVariants as path
use Rattle.book_policy_gaps.specs.Askers.{IsEverybody}
use Rattle.book_policy_gaps.specs.Far.{far_gaps}
use Rattle.book_policy_gaps.specs.Gaps.{judged_at, plain_gaps}
use Rattle.book_policy_gaps.specs.Places.{place_at}
use Rattle.book_policy_gaps.specs.declared.askers.Everybody.{Everybody}
use Rattle.book_policy_gaps.specs.declared.finding.Found.{Found}
use Rattle.book_policy_gaps.specs.declared.finding.Homes.{Homes}
use Rattle.book_policy_gaps.specs.declared.gaps.Gap.{Gap}
use Rattle.book_policy_gaps.specs.declared.gaps.Judged.{Judged}
use Rattle.book_policy_gaps.specs.declared.places.Place.{Place}

abbrev pub gaps_by : List Listed → Everybody → List Judged → Place → List Place → List Gap
gaps_by groups everybody judged home books = plain_gaps groups everybody.persons judged books ++ far_gaps everybody home books

abbrev pub person_paths : List Listed → List Path
person_paths persons = map (λ (person : Listed). path.Person person.name) persons

abbrev pub group_paths : List Listed → List Path
group_paths groups = map (λ (group : Listed). path.Group group.name) groups

abbrev pub book_paths : List Listed → List Path
book_paths books = map (λ (book : Listed). path.Book book.name) books

abbrev pub home_paths : List Path
home_paths = path.Root ∷ path.People ∷ path.Groups ∷ path.Books ∷ []

-- the root, the homes, each person, each group and each book, by what is listed in the homes
abbrev pub paths_among : List Listed → List Listed → List Listed → List Path
paths_among persons groups books = home_paths ++ (person_paths persons ++ (group_paths groups ++ book_paths books))

-- what is listed in the homes
abbrev pub homes_of : Office → Homes
homes_of o = record { persons = children_at o path.People; groups = children_at o path.Groups; books = children_at o path.Books }

-- the resources that are no cards, in order, each judged for everybody
abbrev pub judged_all : Office → Everybody → Homes → List Judged
judged_all o everybody homes = map (judged_at o everybody) (paths_among homes.persons homes.groups homes.books)

-- the books, in order
abbrev pub books_all : Office → Homes → List Place
books_all o homes = map (place_at o) (book_paths homes.books)

-- what the facts are told of: everybody, the resources, the home of the books, and the books
pub record IsFound (o : Office) (homes : Homes) (found : Found) : Type 0 where
  pub everybody : IsEverybody o.pairs homes.persons found.everybody
  pub judged : found.judged ≡ judged_all o found.everybody homes
  pub home : found.home ≡ place_at o path.Books
  pub books : found.books ≡ books_all o homes

abbrev pub gaps_in : Homes → Found → List Gap
gaps_in homes found = gaps_by homes.groups found.everybody found.judged found.home found.books

-- exactly the facts that hold, in one order
abbrev pub AreGaps : Office → List Gap → Type 0
AreGaps o gaps = (found : Found) × IsFound o (homes_of o) found × (gaps ≡ gaps_in (homes_of o) found)
