-- Rights that differ, as lines of text: `lost` or `gained`, the words for the place, the caller, and the leaves by their short names (own
-- profile).
use Rattle.std.specs.Prelude.{ℕ, Bool, List, ◌∷◌, ◌++◌, codes, decimal, map, Option}
use Rattle.std.specs.List.{flat_map}
use Rattle.book_rights.specs.Leaves.{difference}
use Rattle.book_rights.specs.declared.privileges.Leaf.{Leaf}
use Rattle.book_office_audit.specs.Audits.{Block}
use Rattle.book_office_values.specs.Paths.{path_text}
use Rattle.book_office_values.specs.declared.paths.Path.{Path}
use Rattle.book_questions_rights.specs.Lines.{line}
use Rattle.book_questions_differs.specs.Forces.{card_force_in, force_in, held}
use Rattle.book_questions_differs.specs.Pairs.{PairClass, classes_of, paired}
use Rattle.book_questions_differs.specs.declared.forces.Force.{Force}
use Rattle.book_questions_differs.specs.declared.parties.Party.{Party}
use Rattle.book_questions_differs.specs.declared.pairs.CardPair.{CardPair}
use Rattle.book_questions_differs.specs.declared.places.Side.{Side}
use Rattle.book_questions_differs.specs.declared.places.Spot.{Spot}

-- what a caller holds before and not after, and what it holds after and not before
module _ (before after : Option Force) where
  abbrev pub lost : Party → Leaf → Bool
  lost party = difference (held before party.before) (held after party.after)

  abbrev pub gained : Party → Leaf → Bool
  gained party = difference (held after party.after) (held before party.before)

module _ (head : List ℕ) (before after : Option Force) where
  -- a line of each; where there is nothing, none
  abbrev pub party_lines : Party → List ℕ
  party_lines party =
      line (codes "lost " ++ head) party.caller (lost before after party) ++ line (codes "gained " ++ head) party.caller (gained before after party)

  abbrev pub lines_at : List Party → List ℕ
  lines_at parties = flat_map party_lines parties

module _ (parties : List Party) (spot : Spot) where
  -- the lines of a resource, at the text of its path
  abbrev pub own_block : Block
  own_block = (path_text spot.path, lines_at (path_text spot.path) (force_in spot.before) (force_in spot.after) parties)

  -- ---- cards
  -- the text of the path of a card
  abbrev pub card_key : PairClass → List ℕ
  card_key class = path_text spot.path ++ codes "/" ++ class.pair.name

  -- the words for equal cards: the path of the first of them, and how many there are
  abbrev pub class_head : PairClass → List ℕ
  class_head class = card_key class ++ (codes " of " ++ decimal class.count)

  -- the lines of equal cards, at the path of the first of them
  abbrev pub class_block : PairClass → Block
  class_block class =
      (card_key class, lines_at (class_head class) (card_force_in spot.before class.pair.before) (card_force_in spot.after class.pair.after) parties)

  -- those of a resource and of the cards in it
  abbrev pub spot_blocks : List CardPair → List Block
  spot_blocks pairs = own_block ∷ map class_block (classes_of pairs)

-- what differs at a path, of what each Office has there
abbrev pub spot_with : Path → Side → Side → Spot
spot_with p before after = record { path = p; before = before.found; after = after.found }

abbrev pub side_blocks : List Party → Path → Side → Side → List Block
side_blocks parties p before after = spot_blocks parties (spot_with p before after) (paired before.cards after.cards)
