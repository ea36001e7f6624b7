-- What the lines tell: the decisions, and which cards share them.
use Rattle.std.specs.Prelude.{◌≡◌, ◌≢◌, ◌↔◌, ◌⊎◌, ℕ, true, false, List, [], ◌∷◌, ◌++◌, count_by, map, Contains, Some, None}
use Rattle.std.specs.FinMap.{empty, get}
use Rattle.std.specs.List.{flat_map}
use Rattle.book_rights.specs.Privileges.{contained}
use Rattle.book_rights.specs.declared.privileges.Leaf.{Leaf}
use Rattle.book_rights.specs.declared.privileges.Privilege.TheVariants.{One}
use Rattle.book_lists.specs.Circles.{CircleOf}
use Rattle.book_office.specs.Resources.{Resource, resource_at}
use Rattle.book_office.specs.Sound.{IsSound}
use Rattle.book_office.specs.declared.nodes.Listed.{Listed}
use Rattle.book_office_audit.specs.Audits.{gathered}
use Rattle.book_office_values.specs.Names.{NamesTo}
use Rattle.book_office_values.specs.Paths.{card_path, path_text}
use Rattle.book_office_values.specs.declared.offices.Office.{Office}
use Rattle.book_office_values.specs.declared.paths.Path.{Path}
use Rattle.book_office_values.specs.declared.paths.Path.TheVariants as path
use Rattle.book_office_listings.specs.Verdicts.{IsGrantedAt}
use Rattle.book_questions_rights.specs.EqualCards.{Class, IsAlike, classes_of, is_alike}
use Rattle.book_questions_rights.specs.Lines.{card_entries, card_here, class_block, granted_by, own_block, place_blocks}
use Rattle.book_questions_rights.specs.Places.{asked_below, cards_of, is_itself, place_of}
use Rattle.book_questions_rights.specs.declared.askers.Asker.{Asker}

-- a leaf stands in the line of a caller at a resource that is no card exactly where the decision grants it
abbrev pub LinesTellTheGrants : Type 0
LinesTellTheGrants = (o : Office) (p : Path) (circle : CircleOf) (leaf : Leaf) → is_itself p ≡ true
    → (granted_by ((place_of o p).protected ++ (place_of o p).own) circle (place_of o p).here leaf ≡ true) ↔ IsGrantedAt o circle p (contained (One leaf))

-- the cards of a class have the owner and the own list of its card
pub record IsOfClass (class : Class) (r : Resource) : Type 0 where
  pub owner : class.card.owner ≡ r.owner
  pub own : class.card.own ≡ r.own

-- each card of a book is told in a class, and a leaf stands in the line of a caller for that class exactly where the decision grants it at the card
abbrev pub ClassesTellTheGrants : Type 0
ClassesTellTheGrants = (o : Office) (b c : List ℕ) (r : Resource) → resource_at o (path.Card b c) ≡ Some r
    → (class : Class) × Contains (classes_of (cards_of o (path.Book b))) class × IsOfClass class r
    × ((circle : CircleOf) (leaf : Leaf)
    → (granted_by (card_entries (place_of o (path.Book b)) class.card) circle (card_here class.card) leaf ≡ true) ↔ IsGrantedAt o circle (path.Card b c) (contained (One leaf)))

-- no two of these classes have cards that are alike
abbrev pub AreApart : List Class → Type 0
AreApart [] = Unit {0}
AreApart (class ∷ classes) = ((other : Class) → Contains classes other → IsAlike class.card other.card → ⊥) × AreApart classes

-- the classes of cards: each card is like that of one, which is one of the cards, and none is like those of two; each tells how many
-- cards are like its own
pub record AreClasses (cards : List Listed) (classes : List Class) : Type 0 where
  pub each : (card : Listed) → Contains cards card → (class : Class) × Contains classes class × IsAlike card class.card
  pub there : (class : Class) → Contains classes class → Contains cards class.card
  pub apart : AreApart classes
  pub counted : (class : Class) → Contains classes class → class.count ≡ count_by (is_alike class.card) cards

-- the test for cards that are alike
abbrev pub AlikeIsTested : Type 0
AlikeIsTested = (card other : Listed) → (is_alike card other ≡ true) ↔ IsAlike card other

-- two cards are told in one class exactly where their owners and own lists are equal
abbrev pub CardsHaveOneClass : Type 0
CardsHaveOneClass = (cards : List Listed) → AreClasses cards (classes_of cards)

-- what is told of everything at a path and below it, as a map from the texts of paths
abbrev pub told_below : Office → List Asker → Path → NamesTo (List ℕ)
told_below o askers p = gathered empty (flat_map (place_blocks false askers) (map (place_of o) (asked_below o p)))

-- each resource has its lines at the text of its path, each class of a book at the text of the path of its card, and nothing else is told
pub record TellsEach (o : Office) (askers : List Asker) (p : Path) (told : NamesTo (List ℕ)) : Type 0 where
  pub resources : (q : Path) → Contains (asked_below o p) q → get told (path_text q) ≡ Some (own_block askers (place_of o q)).1
  pub classes : (b : List ℕ) (class : Class) → Contains (asked_below o p) (path.Book b) → Contains (classes_of (cards_of o (path.Book b))) class
      → get told (card_path b class.card.name) ≡ Some (class_block askers (place_of o (path.Book b)) class).1
  pub only : (text : List ℕ) → get told text ≢ None → ((q : Path) × Contains (asked_below o p) q × (text ≡ path_text q))
      ⊎ ((b : List ℕ) × (class : Class) × Contains (asked_below o p) (path.Book b) × Contains (classes_of (cards_of o (path.Book b))) class × (text ≡ card_path b class.card.name))

-- of a sound Office each resource at a path that is no card's and below it is told, once
abbrev pub EachIsTold : Type 0
EachIsTold = (o : Office) (askers : List Asker) (p : Path) → IsSound o → is_itself p ≡ true → resource_at o p ≢ None → TellsEach o askers p (told_below o askers p)
