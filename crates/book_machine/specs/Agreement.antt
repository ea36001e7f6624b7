-- What a caller may read, and Offices that differ in nothing that the caller may read (own profile).
use Rattle.std.specs.Prelude.{◌≡◌, ℕ, Bool, List, [], Option, Some, None, option_and_then}
use Rattle.book_rights.specs.Leaves.{only}
use Rattle.book_rights.specs.Privileges.{is_read}
use Rattle.book_rights.specs.declared.privileges.Leaf.{Leaf}
use Rattle.book_rights.specs.declared.privileges.Leaf.TheVariants.{ReadNames}
use Rattle.book_lists.specs.Callers.{IsCircle}
use Rattle.book_lists.specs.Circles.{CircleOf}
use Rattle.book_lists.specs.Principals.{person_path}
use Rattle.book_lists.specs.declared.circles.Caller.{Caller}
use Rattle.book_lists.specs.declared.circles.Caller.TheVariants.{Nobody, Known}
use Rattle.book_office_members.specs.Names.{name_told}
use Rattle.book_office_adopting.specs.Adopting.{mapped}
use Rattle.book_office_values.specs.declared.offices.Book.{Book}
use Rattle.book_office_values.specs.declared.offices.StoredCard.{StoredCard}
use Rattle.book_office_values.specs.declared.offices.Office.{Office}
use Rattle.book_office_values.specs.declared.paths.Path.{Path}
use Rattle.book_office_values.specs.declared.paths.Path.TheVariants as path
use Rattle.book_office.specs.Resources.{card_at}
use Rattle.book_office_listings.specs.Verdicts.{IsGrantedAt}

-- the caller that a request names
abbrev pub named : Option (List ℕ) → Caller
named None = Nobody
named (Some name) = Known (person_path name)

-- a set of leaves is allowed for the caller at a path
pub record MayHave (o : Office) (caller : Caller) (p : Path) (set : Leaf → Bool) : Type 0 where
  pub circle : CircleOf
  pub is_circle : IsCircle o.pairs caller circle
  pub granted : IsGrantedAt o circle p set

-- `read` is, and `x-read-names` is
abbrev pub MayRead : Office → Caller → Path → Type 0
MayRead o caller p = MayHave o caller p is_read

abbrev pub MayReadName : Office → Caller → Path → Type 0
MayReadName o caller p = MayHave o caller p (only ReadNames)

-- the name that a card's text says, if there is a card, and its text is one
abbrev pub name_in : Option StoredCard → Option (List ℕ)
name_in card = option_and_then (λ (card : StoredCard). name_told card.text) card

-- an Office without the labels and texts of its cards
abbrev pub outline_of_card : StoredCard → StoredCard
outline_of_card card = record card { label = []; text = [] }

abbrev pub outline_of_book : Book → Book
outline_of_book book = record book { cards = mapped (λ _ card. outline_of_card card) book.cards }

abbrev pub outline : Office → Office
outline o = record o { books = mapped (λ _ book. outline_of_book book) o.books }

-- two Offices that are equal but for the labels and texts of the cards on which `read` is not allowed for the caller; where
-- `x-read-names` is allowed on such a card, both texts say the same name, or both are no cards
pub record Agree (o p : Office) (caller : Caller) : Type 0 where
  pub outlines : outline o ≡ outline p
  pub readable : (b c : List ℕ) → MayRead o caller (path.Card b c) → card_at o b c ≡ card_at p b c
  pub named : (b c : List ℕ) → MayReadName o caller (path.Card b c) → name_in (card_at o b c) ≡ name_in (card_at p b c)
