-- The names of the cards of a book, as they are told to who may read names alone (own profile).
use Rattle.std.specs.Prelude.{◌≡◌, ℕ, List, map, Option, Some, None, option_map, T}
use Rattle.std.specs.FinMap.{find, is_sorted}
use Rattle.book_rights.specs.declared.privileges.Leaf.TheVariants.{ReadNames}
use Rattle.book_cards.specs.CardText.{card_fault, formatted_in}
use Rattle.book_cards.specs.Folding.{unfolded}
use Rattle.book_cards.specs.declared.fault.CardFault.{CardFault}
use Rattle.book_lists.specs.Circles.{CircleOf}
use Rattle.book_lists.specs.Names.{name_cmp}
use Rattle.book_office_values.specs.declared.offices.Office.{Office}
use Rattle.book_office_sync.specs.Granted.{text_at}
use Rattle.book_office_members.specs.declared.names.NamedCard.{NamedCard}

-- the name that a text says, given its fault as a card: the value of its first FN; a text that is no card says none
abbrev pub name_unless : Option CardFault → List ℕ → Option (List ℕ)
name_unless None text = Some (formatted_in (unfolded text))
name_unless (Some fault) text = None

abbrev pub name_told : List ℕ → Option (List ℕ)
name_told text = name_unless (card_fault text) text

-- a card with the name that its text says, as an entry of a map from names
abbrev pub pair_of : NamedCard → List ℕ × Option (List ℕ)
pair_of card = (card.name, card.formatted)

-- the cards of a book on which `x-read-names` is granted to who has this circle, in byte order, each with the name that it says
pub record AreNamesAt (o : Office) (circle : CircleOf) (b : List ℕ) (names : List NamedCard) : Type 0 where
  pub in_order : T (is_sorted name_cmp (map pair_of names))
  pub told : (c : List ℕ) → find name_cmp c (map pair_of names) ≡ option_map name_told (text_at o circle b ReadNames c)

-- each book has its names in each view
abbrev pub NamesExist : Type 0
NamesExist = (o : Office) (circle : CircleOf) (b : List ℕ) → (names : List NamedCard) × AreNamesAt o circle b names

-- ---- how they are read
abbrev pub named_card : List ℕ × Option (List ℕ) → NamedCard
named_card e = record { name = e.0; formatted = e.1 }
