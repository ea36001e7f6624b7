-- What the lines tell: exactly the decisions that differ.
use Rattle.std.specs.Prelude.{◌≡◌, ◌≢◌, ◌⊎◌, ◌↔◌, ℕ, true, List, ◌∷◌, [], count_by, Contains, Option, Some, None}
use Rattle.std.specs.FinMap.{empty, get}
use Rattle.book_rights.specs.Privileges.{contained}
use Rattle.book_rights.specs.declared.privileges.Leaf.{Leaf}
use Rattle.book_rights.specs.declared.privileges.Privilege.TheVariants.{One}
use Rattle.book_lists.specs.Callers.{IsCircle}
use Rattle.book_lists.specs.Circles.{CircleOf}
use Rattle.book_office.specs.Resources.{Resource, resource_at}
use Rattle.book_office.specs.Sound.{IsSound}
use Rattle.book_office.specs.declared.nodes.Listed.{Listed}
use Rattle.book_office_audit.specs.Audits.{gathered}
use Rattle.book_office_values.specs.Names.{NamesTo}
use Rattle.book_office_values.specs.Paths.{card_path, path_text}
use Rattle.book_office_values.specs.declared.offices.Office.{Office}
use Rattle.book_office_values.specs.declared.paths.Path.{Path}
use Rattle.book_office_values.specs.declared.paths.Path.TheVariants as path
use Rattle.book_office_listings.specs.Verdicts.{IsGrantedAt}
use Rattle.book_questions_rights.specs.Places.{cards_of, is_itself}
use Rattle.book_questions_differs.specs.Differences.{blocks_of}
use Rattle.book_questions_differs.specs.Forces.{card_force_in, force_in}
use Rattle.book_questions_differs.specs.Lines.{class_block, gained, lost, own_block, spot_with}
use Rattle.book_questions_differs.specs.Pairs.{AreAlike, PairClass, are_alike, classes_of, paired}
use Rattle.book_questions_differs.specs.Parties.{IsParty, caller_named, everybody, is_there}
use Rattle.book_questions_differs.specs.Places.{found_at, paths_of_either, side_at}
use Rattle.book_questions_differs.specs.declared.forces.Force.{Force}
use Rattle.book_questions_differs.specs.declared.pairs.CardPair.{CardPair}
use Rattle.book_questions_differs.specs.declared.parties.Party.{Party}

-- an Office grants a leaf to a caller at a path: both are there, and the decision grants it
pub record Holds (o : Office) (name : Option (List ℕ)) (p : Path) (leaf : Leaf) : Type 0 where
  pub asked : is_there o name ≡ true
  pub mapped : resource_at o p ≢ None
  pub circle : CircleOf
  pub is_circle : IsCircle o.pairs (caller_named name) circle
  pub granted : IsGrantedAt o circle p (contained (One leaf))

-- `lost` has a leaf exactly where the first Office grants it and the last does not, and `gained` exactly the other way round
pub record TellsWhatDiffers (o p : Office) (at : Path) (before after : Option Force) : Type 0 where
  pub lost : (name : Option (List ℕ)) (party : Party) (leaf : Leaf) → IsParty o p name party
      → (lost before after party leaf ≡ true) ↔ (Holds o name at leaf × (Holds p name at leaf → ⊥))
  pub gained : (name : Option (List ℕ)) (party : Party) (leaf : Leaf) → IsParty o p name party
      → (gained before after party leaf ≡ true) ↔ (Holds p name at leaf × (Holds o name at leaf → ⊥))

-- so it is in the lines of a resource that is no card
abbrev pub LinesTellWhatDiffers : Type 0
LinesTellWhatDiffers = (o p : Office) (at : Path) → is_itself at ≡ true → TellsWhatDiffers o p at (force_in (found_at o at)) (force_in (found_at p at))

-- a card is as the resource at a path, or none is there
abbrev pub IsSeen : Option Listed → Option Resource → Type 0
IsSeen None None = Unit {0}
IsSeen None (Some r) = ⊥
IsSeen (Some card) None = ⊥
IsSeen (Some card) (Some r) = (card.owner ≡ r.owner) × (card.own ≡ r.own)

-- the cards of a book in two Offices, in classes
abbrev pub classes_at : Office → Office → List ℕ → List PairClass
classes_at o p b = classes_of (paired (cards_of o (path.Book b)) (cards_of p (path.Book b)))

-- a class has the owner and the own list of a card in each Office, and its lines tell what differs at the card
pub record TellsCard (o p : Office) (b c : List ℕ) (class : PairClass) : Type 0 where
  pub among : Contains (classes_at o p b) class
  pub before : IsSeen class.pair.before (resource_at o (path.Card b c))
  pub after : IsSeen class.pair.after (resource_at p (path.Card b c))
  pub differing : TellsWhatDiffers o p (path.Card b c) (card_force_in (found_at o (path.Book b)) class.pair.before) (card_force_in (found_at p (path.Book b)) class.pair.after)

-- each card that is in one of the Offices is told in a class
abbrev pub ClassesTellWhatDiffers : Type 0
ClassesTellWhatDiffers = (o p : Office) (b c : List ℕ) → (resource_at o (path.Card b c) ≢ None) ⊎ (resource_at p (path.Card b c) ≢ None)
    → (class : PairClass) × TellsCard o p b c class

-- ---- classes
-- no two of these classes have cards that are alike
abbrev pub AreApart : List PairClass → Type 0
AreApart [] = Unit {0}
AreApart (class ∷ classes) = ((other : PairClass) → Contains classes other → AreAlike class.pair other.pair → ⊥) × AreApart classes

-- the classes of cards: each card is like that of one, which is one of the cards, and none is like those of two; each tells how many
-- cards are like its own
pub record AreClasses (pairs : List CardPair) (classes : List PairClass) : Type 0 where
  pub each : (pair : CardPair) → Contains pairs pair → (class : PairClass) × Contains classes class × AreAlike pair class.pair
  pub there : (class : PairClass) → Contains classes class → Contains pairs class.pair
  pub apart : AreApart classes
  pub counted : (class : PairClass) → Contains classes class → class.count ≡ count_by (are_alike class.pair) pairs

-- the test for cards that are alike
abbrev pub AlikeIsTested : Type 0
AlikeIsTested = (pair other : CardPair) → (are_alike pair other ≡ true) ↔ AreAlike pair other

-- two cards are told in one class exactly where their owners and own lists are equal in both Offices
abbrev pub CardsHaveOneClass : Type 0
CardsHaveOneClass = (pairs : List CardPair) → AreClasses pairs (classes_of pairs)

-- ---- everybody and everything
-- nobody is asked about, and whoever is a person of one of the Offices, and no one else
abbrev pub EverybodyIsAsked : Type 0
EverybodyIsAsked = (o p : Office) (name : Option (List ℕ)) → Contains (everybody o p) name ↔ ((is_there o name ≡ true) ⊎ (is_there p name ≡ true))

-- what is told, as a map from the texts of paths
abbrev pub told : Office → Office → List Party → NamesTo (List ℕ)
told o p parties = gathered empty (blocks_of o p parties (paths_of_either o p))

-- something is mapped at the path in one of the Offices
abbrev pub IsInEither : Office → Office → Path → Type 0
IsInEither o p at = (resource_at o at ≢ None) ⊎ (resource_at p at ≢ None)

-- each resource of either Office has its lines at the text of its path, each class of a book at the text of the path of its card, and
-- nothing else is told
pub record TellsEach (o p : Office) (parties : List Party) (all : NamesTo (List ℕ)) : Type 0 where
  pub resources : (at : Path) → is_itself at ≡ true → IsInEither o p at → get all (path_text at) ≡ Some (own_block parties (spot_with at (side_at o at) (side_at p at))).1
  pub classes : (b : List ℕ) (class : PairClass) → Contains (classes_at o p b) class
      → get all (card_path b class.pair.name) ≡ Some (class_block parties (spot_with (path.Book b) (side_at o (path.Book b)) (side_at p (path.Book b))) class).1
  pub only : (text : List ℕ) → get all text ≢ None → ((at : Path) × (is_itself at ≡ true) × IsInEither o p at × (text ≡ path_text at))
      ⊎ ((b : List ℕ) × (class : PairClass) × Contains (classes_at o p b) class × (text ≡ card_path b class.pair.name))

-- each resource of two sound Offices is told, once
abbrev pub EachIsTold : Type 0
EachIsTold = (o p : Office) (parties : List Party) → IsSound o → IsSound p → TellsEach o p parties (told o p parties)
