-- Rights as lines of text: the words for the place, the caller, and the leaves that are granted, by their short names (own profile).
use Rattle.std.specs.Prelude.{ℕ, Bool, true, false, None, not, cond, List, [], ◌∷◌, ◌++◌, codes, decimal, if◌then◌else◌}
use Rattle.std.specs.List.{flat_map, list_any}
use Rattle.book_rights.specs.Leaves.{difference, no_leaf, same_leaves}
use Rattle.book_rights.specs.declared.privileges.Leaf.{Leaf}
use Rattle.book_lists.specs.Circles.{CircleOf}
use Rattle.book_lists.specs.Deciding as deciding
use Rattle.book_lists.specs.Decisions.{bears, denying}
use Rattle.book_lists.specs.declared.circles.Caller.{Caller}
use Rattle.book_lists.specs.declared.entries.Entry.{Entry}
use Rattle.book_lists.specs.declared.entries.Here.{Here}
use Rattle.book_lists_explain.specs.Answers.{spaced}
use Rattle.book_lists_explain.specs.ShortNames.{short_list}
use Rattle.book_office.specs.declared.nodes.Listed.{Listed}
use Rattle.book_office_audit.specs.Audits.{Block}
use Rattle.book_office_values.specs.Paths.{path_text}
use Rattle.book_questions.specs.Who.{caller_text}
use Rattle.book_questions_rights.specs.EqualCards.{Class, classes_of}
use Rattle.book_questions_rights.specs.declared.askers.Asker.{Asker}
use Rattle.book_questions_rights.specs.declared.places.Place.{Place}

-- the leaves that the first entry which applies and holds them grants
abbrev pub granted_by : List Entry → CircleOf → Here → Leaf → Bool
granted_by entries circle here = deciding.granted (bears circle here) denying entries

-- a caller who holds no leaf has no line
abbrev pub line : List ℕ → Caller → (Leaf → Bool) → List ℕ
line head caller set =
    if same_leaves set no_leaf then [] else head ++ (codes " " ++ (caller_text caller ++ (flat_map spaced (short_list set) ++ codes "\n")))

abbrev pub asker_line : List ℕ → List Entry → Here → Asker → List ℕ
asker_line head entries here asker = line head asker.caller (granted_by entries asker.circle here)

abbrev pub lines_at : List ℕ → List Entry → Here → List Asker → List ℕ
lines_at head entries here askers = flat_map (asker_line head entries here) askers

-- some entries grant a leaf that others do not
abbrev pub gains : List Entry → List Entry → Here → Asker → Bool
gains entries others here asker = not (same_leaves (difference (granted_by entries asker.circle here) (granted_by others asker.circle here)) no_leaf)

-- ---- a place, and the cards in it
-- the lines of a resource, at the text of its path
abbrev pub own_block : List Asker → Place → Block
own_block askers place = (path_text place.path, lines_at (path_text place.path) (place.protected ++ place.own) place.here askers)

-- the entries in force at a card, and what they ask of it
abbrev pub card_entries : Place → Listed → List Entry
card_entries place card = place.protected ++ (card.own ++ place.own)

abbrev pub card_here : Listed → Here
card_here card = record { owner = card.owner; principal = None }

-- the text of the path of a card
abbrev pub card_key : Place → Listed → List ℕ
card_key place card = path_text place.path ++ codes "/" ++ card.name

-- the words for equal cards: the path of the first of them, and how many there are
abbrev pub class_head : Place → Class → List ℕ
class_head place class = card_key place class.card ++ (codes " of " ++ decimal class.count)

abbrev pub class_block : List Asker → Place → Class → Block
class_block askers place class =
    (card_key place class.card, lines_at (class_head place class) (card_entries place class.card) (card_here class.card) askers)

-- the own list of a card grants somebody who is asked about a leaf that the entries of its book do not
abbrev pub is_shared : List Asker → Place → Listed → Bool
is_shared askers place card = list_any (gains (card_entries place card) (place.protected ++ place.own) (card_here card)) askers

module _ (shared : Bool) (askers : List Asker) where
  -- the resource; where shared cards alone are told, nothing of it
  abbrev pub own_blocks : Place → List Block
  own_blocks place = if cond shared false place.itself then own_block askers place ∷ [] else []

  -- equal cards; where shared cards alone are told, nothing of those that are not
  abbrev pub class_blocks : Place → Class → List Block
  class_blocks place class = if cond shared (is_shared askers place class.card) true then class_block askers place class ∷ [] else []

  abbrev pub card_blocks : Place → List Block
  card_blocks place = flat_map (class_blocks place) (classes_of place.cards)

  abbrev pub place_blocks : Place → List Block
  place_blocks place = own_blocks place ++ card_blocks place
