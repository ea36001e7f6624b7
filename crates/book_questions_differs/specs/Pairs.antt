-- The cards of a book in two Offices, by name, and which of them are told once: those whose owners and own lists are equal in both.
use Rattle.std.specs.Prelude.{ℕ, Bool, true, false, ◌&&◌, List, [], ◌∷◌, ◌++◌, map, count_by, Option, Some, None, if◌then◌else◌}
use Rattle.std.specs.FinMap.{empty, entries, get, insert, remove}
use Rattle.std.specs.List.{list_any}
use Rattle.book_office.specs.declared.nodes.Listed.{Listed}
use Rattle.book_office_values.specs.Names.{NamesTo}
use Rattle.book_questions_rights.specs.EqualCards.{IsAlike, is_alike}
use Rattle.book_questions_differs.specs.declared.pairs.CardPair.{CardPair}

-- a map with cards, each at its name
abbrev pub with_cards : NamesTo Listed → List Listed → NamesTo Listed
with_cards cards [] = cards
with_cards cards (card ∷ more) = with_cards (insert cards card.name card) more

abbrev pub only_after : List ℕ × Listed → CardPair
only_after e = record { name = e.0; before = None; after = Some e.1 }

-- each card with that of its name among others, and then the others that are left
abbrev pub pairs_with : NamesTo Listed → List Listed → List CardPair
pairs_with others [] = map only_after (entries others)
pairs_with others (card ∷ cards) =
    record { name = card.name; before = Some card; after = get others card.name } ∷ pairs_with (remove others card.name) cards

abbrev pub paired : List Listed → List Listed → List CardPair
paired before after = pairs_with (with_cards empty after) before

-- ---- equal cards
-- both are there, with equal owners and own lists, or none is there
abbrev pub IsAlikeIn : Option Listed → Option Listed → Type 0
IsAlikeIn None None = Unit {0}
IsAlikeIn None (Some other) = ⊥
IsAlikeIn (Some card) None = ⊥
IsAlikeIn (Some card) (Some other) = IsAlike card other

-- so it is before, and after
pub record AreAlike (pair other : CardPair) : Type 0 where
  pub before : IsAlikeIn pair.before other.before
  pub after : IsAlikeIn pair.after other.after

-- the same as a test
abbrev pub is_alike_in : Option Listed → Option Listed → Bool
is_alike_in None None = true
is_alike_in None (Some other) = false
is_alike_in (Some card) None = false
is_alike_in (Some card) (Some other) = is_alike card other

abbrev pub are_alike : CardPair → CardPair → Bool
are_alike pair other = is_alike_in pair.before other.before && is_alike_in pair.after other.after

-- ---- classes
-- a card, and how many cards there are like it
pub record PairClass : Type 0 where
  pub pair : CardPair
  pub count : ℕ

module _ (all : List CardPair) where
  -- the class of a card, where no card before it is like it
  abbrev pub class_at : List CardPair → CardPair → List PairClass
  class_at before pair = if list_any (are_alike pair) before then [] else record { pair = pair; count = count_by (are_alike pair) all } ∷ []

  -- the classes of the cards after these
  abbrev pub classes_after : List CardPair → List CardPair → List PairClass
  classes_after before [] = []
  classes_after before (pair ∷ pairs) = class_at before pair ++ classes_after (before ++ pair ∷ []) pairs

-- for each card that is the first of its like, how many there are
abbrev pub classes_of : List CardPair → List PairClass
classes_of pairs = classes_after pairs [] pairs
