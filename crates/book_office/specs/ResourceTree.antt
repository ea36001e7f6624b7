-- A sound Office as a map from paths: what holds of a resource by where it stands, and of the numbers of a book.
use Rattle.std.specs.Prelude.{◌≡◌, ◌≢◌, ◌⊎◌, ◌↔◌, ℕ, ◌≤◌, List, [], Some, None}
use Rattle.book_office_values.specs.declared.offices.Office.{Office}
use Rattle.book_office_values.specs.declared.paths.Kind.TheVariants as kind
use Rattle.book_office_values.specs.declared.paths.Path.{Path}
use Rattle.book_office_values.specs.declared.paths.Path.TheVariants as path
use Rattle.book_office_values.specs.Paths.{IsPath, parent_of, kind_of}
use Rattle.book_office.specs.Resources.{Resource, resource_at, removed_at}
use Rattle.book_office.specs.Sound.{IsSound}

abbrev pub IsThere : Office → Path → Type 0
IsThere o p = resource_at o p ≢ None

-- the root and the three homes are always there
abbrev pub HomesAreThere : Type 0
HomesAreThere = (o : Office)
    → IsThere o path.Root × IsThere o path.People × IsThere o path.Groups × IsThere o path.Books

pub record StandsInPlace (o : Office) (p : Path) (r : Resource) : Type 0 where
  pub named : IsPath p
  pub of_kind : r.kind ≡ kind_of p
  pub under : (q : Path) → parent_of p ≡ Some q → IsThere o q
  -- cards alone have texts, and have no protected entries
  pub text : (r.text ≢ None) ↔ (kind_of p ≡ kind.Card)
  pub protected : kind_of p ≡ kind.Card → r.protected ≡ []
  -- books and cards alone have numbers
  pub number : kind_of p ≢ kind.Book → kind_of p ≢ kind.Card → r.number ≡ 0

abbrev pub ResourcesStandInPlace : Type 0
ResourcesStandInPlace = (o : Office) → IsSound o
    → (p : Path) (r : Resource) → resource_at o p ≡ Some r → StandsInPlace o p r

-- books alone have removed names, and no name is both removed and mapped
abbrev pub RemovedNamesAreFree : Type 0
RemovedNamesAreFree = (o : Office) (b name : List ℕ) → removed_at o b name ≢ None
    → IsThere o (path.Book b) × (resource_at o (path.Card b name) ≡ None)

-- the number of a name in a book: its card's, or its own among the removed names
abbrev pub HasNumber : Office → List ℕ → List ℕ → ℕ → Type 0
HasNumber o b name n =
    ((card : Resource) × (resource_at o (path.Card b name) ≡ Some card) × (card.number ≡ n)) ⊎ (removed_at o b name ≡ Some n)

abbrev pub NumbersAreFromOneToTheBooks : Type 0
NumbersAreFromOneToTheBooks = (o : Office) → IsSound o
    → (b : List ℕ) (book : Resource) → resource_at o (path.Book b) ≡ Some book
    → (name : List ℕ) (n : ℕ) → HasNumber o b name n → (1 ≤ n) × (n ≤ book.number)

abbrev pub NumbersTellNames : Type 0
NumbersTellNames = (o : Office) → IsSound o
    → (b name other : List ℕ) (n : ℕ) → HasNumber o b name n → HasNumber o b other n → name ≡ other
