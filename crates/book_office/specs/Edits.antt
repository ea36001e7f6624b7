-- What each edit leaves.
use Rattle.std.specs.Prelude.{ℕ, ◌+◌, List, [], ◌∷◌, Bool, true, false, not, map, Option, Some, None}
use Rattle.std.specs.FinMap.{get, insert, remove, empty}
use Rattle.std.specs.FinSet as set
use Rattle.std.specs.Str.{bytes_eq}
use Rattle.book_lists.specs.Memberships.{Memberships}
use Rattle.book_lists.specs.declared.entries.Entry.{Entry}
use Rattle.book_lists.specs.declared.memberships.Membership.{Membership}
use Rattle.book_office.specs.declared.edits.Edit.{Edit}
use Rattle.book_office.specs.declared.edits.Edit.TheVariants.{PutCard, RemoveCard, CopyCard, MoveCard, AddBook, RemoveBook, SetLabel, SetList, SetMembers, Adopt}
use Rattle.book_office_values.specs.declared.offices.Book.{Book}
use Rattle.book_office_values.specs.declared.offices.StoredCard.{StoredCard}
use Rattle.book_office_values.specs.declared.offices.Office.{Office}
use Rattle.book_office_values.specs.declared.offices.Properties.{Properties}
use Rattle.book_office_values.specs.declared.paths.Path.{Path}
use Rattle.book_office_values.specs.declared.paths.Path.TheVariants as path
use Rattle.book_office_values.specs.Changes.{touched}
use Rattle.book_office_adopting.specs.Adopting.{taken_over, adopt}
use Rattle.book_office.specs.Resources.{card_at}
use Rattle.book_office_adopting.specs.Sameness.{same_office}
pub use Rattle.book_office_values.specs.Fresh.{empty_properties, new_book}
pub use Rattle.book_office_values.specs.Names.{NamesTo, changed_if, changed_at}

abbrev pub with_book : (Book → Book) → Office → List ℕ → Office
with_book change o b = record o { books = changed_at change o.books b }

-- the book with a card at a name, which is touched
abbrev pub place_card : Book → List ℕ → StoredCard → Book
place_card book c card = record book { cards = insert book.cards c card; changes = touched book.changes c }

abbrev pub with_text : List ℕ → StoredCard → StoredCard
with_text text card = record card { text = text }

-- PUT: a new card has the owner, an empty label and an empty own list; of a card that is there the text is replaced
abbrev pub card_put : Option StoredCard → Option (List ℕ) → List ℕ → StoredCard
card_put None owner text = record { owner = owner; label = []; own = []; text = text }
card_put (Some card) owner text = with_text text card

abbrev pub put_card : List ℕ → Option (List ℕ) → List ℕ → Book → Book
put_card c owner text book = place_card book c (card_put (get book.cards c) owner text)

-- DELETE of a card: the name is touched, and has no card
abbrev pub remove_card : List ℕ → Book → Book
remove_card c book = record book { cards = remove book.cards c; changes = touched book.changes c }

-- COPY: a new card has the source's text and label, the owner and an empty own list; of a card that is there text and label are replaced
abbrev pub card_copied : Option StoredCard → Option (List ℕ) → List ℕ → List ℕ → StoredCard
card_copied None owner label text = record { owner = owner; label = label; own = []; text = text }
card_copied (Some card) owner label text = record card { label = label; text = text }

abbrev pub put_copy : List ℕ → Option (List ℕ) → List ℕ → List ℕ → Book → Book
put_copy c owner label text book = place_card book c (card_copied (get book.cards c) owner label text)

abbrev pub copy_from : Option StoredCard → List ℕ → Option (List ℕ) → Book → Book
copy_from None c owner book = book
copy_from (Some source) c owner book = put_copy c owner source.label source.text book

abbrev pub copy_card : List ℕ → List ℕ → List ℕ → List ℕ → Option (List ℕ) → Office → Office
copy_card from_book from_card to_book to_card owner o = with_book (copy_from (card_at o from_book from_card) to_card owner) o to_book

-- MOVE: the source is removed, and then the whole card is put at the destination, in place of a card that is there
abbrev pub move_to : Option StoredCard → List ℕ → Book → Book
move_to None c book = book
move_to (Some card) c book = place_card book c card

abbrev pub move_card : List ℕ → List ℕ → List ℕ → List ℕ → Office → Office
move_card from_book from_card to_book to_card o = with_book (move_to (card_at o from_book from_card) to_card) (with_book (remove_card from_card) o from_book) to_book

abbrev pub add_book : List ℕ → Option (List ℕ) → Office → Office
add_book b owner o = record o { books = insert o.books b (new_book owner) }

-- DELETE of a book: its cards and removed names go with it, and access has changed
abbrev pub remove_book : List ℕ → Office → Office
remove_book b o = record o { books = remove o.books b; epoch = o.epoch + 1 }

abbrev pub with_book_properties : (Properties → Properties) → Book → Book
with_book_properties change book = record book { properties = change book.properties }

abbrev pub with_cards : (NamesTo StoredCard → NamesTo StoredCard) → Book → Book
with_cards change book = record book { cards = change book.cards }

-- an Office with the owner, label and lists at a path changed; a card's label and list are changed by edits of their own
abbrev pub with_properties : (Properties → Properties) → Office → Path → Office
with_properties change o path.Root = record o { root = change o.root }
with_properties change o path.People = record o { people = change o.people }
with_properties change o path.Groups = record o { groups_home = change o.groups_home }
with_properties change o path.Books = record o { books_home = change o.books_home }
with_properties change o (path.Person n) = record o { persons = changed_at change o.persons n }
with_properties change o (path.Group n) = record o { groups = changed_at change o.groups n }
with_properties change o (path.Book b) = with_book (with_book_properties change) o b
with_properties change o (path.Card b c) = o

abbrev pub with_card : (StoredCard → StoredCard) → Office → List ℕ → List ℕ → Office
with_card change o b c = with_book (with_cards (λ cards. changed_at change cards c)) o b

abbrev pub label_set : List ℕ → Properties → Properties
label_set label properties = record properties { label = label }

abbrev pub card_labelled : List ℕ → StoredCard → StoredCard
card_labelled label card = record card { label = label }

abbrev pub list_set : List Entry → Properties → Properties
list_set list properties = record properties { own = list }

abbrev pub listed_card : List Entry → StoredCard → StoredCard
listed_card list card = record card { own = list }

-- PROPPATCH of a displayname (RFC 4918, section 15.2): a card's is a change of the card, which touches its name
abbrev pub label_card : List ℕ → List ℕ → Option StoredCard → Book → Book
label_card c label None book = book
label_card c label (Some card) book = place_card book c (card_labelled label card)

abbrev pub set_label : Path → List ℕ → Office → Office
set_label (path.Card b c) label o = with_book (λ book. label_card c label (get book.cards c) book) o b
set_label p label o = with_properties (label_set label) o p

-- ACL (RFC 3744, section 8.1): the own list is replaced; no name is touched
abbrev pub own_list_set : Path → List Entry → Office → Office
own_list_set (path.Card b c) list o = with_card (listed_card list) o b c
own_list_set p list o = with_properties (list_set list) o p

abbrev pub set_list : Path → List Entry → Office → Office
set_list p list o = record (own_list_set p list o) { epoch = o.epoch + 1 }

-- PROPPATCH of a group-member-set (RFC 3744, section 4.3): the direct members of the group become those of the list
abbrev pub members_set : Memberships → List ℕ → List (List ℕ) → Memberships
members_set pairs group members = set.union (set.retain pairs (λ (m : Membership). not (bytes_eq m.group group)))
    (set.from_list (map (λ member. record { group = group; member = member }) members))

abbrev pub set_members : List ℕ → List (List ℕ) → Office → Office
set_members group members o = record o { pairs = members_set o.pairs group members; epoch = o.epoch + 1 }

-- the Office that a new keeper has: the root and the homes
abbrev pub empty_office : Office
empty_office = record {
  root = empty_properties None;
  people = empty_properties None;
  groups_home = empty_properties None;
  books_home = empty_properties None;
  persons = empty;
  groups = empty;
  books = empty;
  pairs = set.empty;
  epoch = 0;
}

-- what an edit leaves
abbrev pub apply : Office → Edit → Office
apply o (PutCard b c owner text) = with_book (put_card c owner text) o b
apply o (RemoveCard b c) = with_book (remove_card c) o b
apply o (CopyCard from_book from_card to_book to_card owner) = copy_card from_book from_card to_book to_card owner o
apply o (MoveCard from_book from_card to_book to_card) = move_card from_book from_card to_book to_card o
apply o (AddBook b owner) = add_book b owner o
apply o (RemoveBook b) = remove_book b o
apply o (SetLabel p label) = set_label p label o
apply o (SetList p list) = set_list p list o
apply o (SetMembers group members) = set_members group members o
apply o (Adopt t) = adopt t o

-- which edits change access: the epoch rises with each of them, and with no other
abbrev pub raises_epoch : Office → Edit → Bool
raises_epoch o (PutCard b c owner text) = false
raises_epoch o (RemoveCard b c) = false
raises_epoch o (CopyCard from_book from_card to_book to_card owner) = false
raises_epoch o (MoveCard from_book from_card to_book to_card) = false
raises_epoch o (AddBook b owner) = false
raises_epoch o (RemoveBook b) = true
raises_epoch o (SetLabel p label) = false
raises_epoch o (SetList p list) = true
raises_epoch o (SetMembers group members) = true
raises_epoch o (Adopt t) = not (same_office o (taken_over t o))

-- which edits may change direct members
abbrev pub changes_members : Edit → Bool
changes_members (PutCard b c owner text) = false
changes_members (RemoveCard b c) = false
changes_members (CopyCard from_book from_card to_book to_card owner) = false
changes_members (MoveCard from_book from_card to_book to_card) = false
changes_members (AddBook b owner) = false
changes_members (RemoveBook b) = false
changes_members (SetLabel p label) = false
changes_members (SetList p list) = false
changes_members (SetMembers group members) = true
changes_members (Adopt t) = true

-- the label of a card is a change of the card, any other of none
abbrev pub touches_label : Path → List (List ℕ × List ℕ)
touches_label path.Root = []
touches_label path.People = []
touches_label path.Groups = []
touches_label path.Books = []
touches_label (path.Person n) = []
touches_label (path.Group n) = []
touches_label (path.Book b) = []
touches_label (path.Card b c) = (b, c) ∷ []

-- the names that an edit touches, each with its book, in order
abbrev pub touches : Edit → List (List ℕ × List ℕ)
touches (PutCard b c owner text) = (b, c) ∷ []
touches (RemoveCard b c) = (b, c) ∷ []
touches (CopyCard from_book from_card to_book to_card owner) = (to_book, to_card) ∷ []
touches (MoveCard from_book from_card to_book to_card) = (from_book, from_card) ∷ (to_book, to_card) ∷ []
touches (AddBook b owner) = []
touches (RemoveBook b) = []
touches (SetLabel p label) = touches_label p
touches (SetList p list) = []
touches (SetMembers group members) = []
touches (Adopt t) = []
