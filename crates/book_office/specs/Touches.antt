-- What an edit makes of the books and their change numbers (own profile).
use Rattle.std.specs.Prelude.{◌≡◌, ◌≢◌, ℕ, ◌+◌, ◌<◌, ◌≤◌, List, [], ◌∷◌, ◌++◌, length, map, filter, fold, Contains, Option, Some, None}
use Rattle.std.specs.FinMap.{get, keys}
use Rattle.std.specs.Str.{bytes_eq}
use Rattle.book_office_values.specs.declared.collections.changes.Numbers.{Numbers}
use Rattle.book_office.specs.declared.edits.Edit.{Edit}
use Rattle.book_office.specs.declared.edits.Edit.TheVariants.{PutCard, RemoveCard, CopyCard, MoveCard, AddBook, RemoveBook, SetLabel, SetList, SetMembers, Adopt}
use Rattle.book_office_values.specs.declared.offices.Book.{Book}
use Rattle.book_office_values.specs.declared.offices.Office.{Office}
use Rattle.book_office_values.specs.declared.offices.StoredCard.{StoredCard}
use Rattle.book_office_values.specs.declared.paths.Path.{Path}
use Rattle.book_office_values.specs.declared.paths.Path.TheVariants as path
use Rattle.book_office.specs.Edits.{apply, touches}
use Rattle.book_office.specs.Resources.{card_at}
use Rattle.book_office_values.specs.Changes.{touched}
use Rattle.book_office.specs.Sound.{IsPossible}

-- the book at a path, or the book of the card at it
abbrev pub books_at : Path → List (List ℕ)
books_at path.Root = []
books_at path.People = []
books_at path.Groups = []
books_at path.Books = []
books_at (path.Person n) = []
books_at (path.Group n) = []
books_at (path.Book b) = b ∷ []
books_at (path.Card b c) = b ∷ []

-- the books that an edit changes, adds or removes
abbrev pub books_of : Office → Edit → List (List ℕ)
books_of o (PutCard b c owner text) = b ∷ []
books_of o (RemoveCard b c) = b ∷ []
books_of o (CopyCard from_book from_card to_book to_card owner) = to_book ∷ []
books_of o (MoveCard from_book from_card to_book to_card) = from_book ∷ to_book ∷ []
books_of o (AddBook b owner) = b ∷ []
books_of o (RemoveBook b) = b ∷ []
books_of o (SetLabel p label) = books_at p
books_of o (SetList p list) = books_at p
books_of o (SetMembers group members) = []
books_of o (Adopt t) = keys o.books ++ keys t.books

abbrev pub OtherBooksStay : Type 0
OtherBooksStay = (o : Office) (edit : Edit) (b : List ℕ)
    → (Contains (books_of o edit) b → ⊥) → get (apply o edit).books b ≡ get o.books b

-- the names of one book among those that are touched, in order
abbrev pub names_in : List ℕ → List (List ℕ × List ℕ) → List (List ℕ)
names_in b touches =
    map (λ (touch : List ℕ × List ℕ). touch.1) (filter (λ (touch : List ℕ × List ℕ). bytes_eq touch.0 b) touches)

-- a book that is there before and after has the numbers before, with the names that the edit touches touched in turn
abbrev pub NamesAreTouchedInTurn : Type 0
NamesAreTouchedInTurn = (o : Office) (edit : Edit) (b : List ℕ) (old new : Book) → IsPossible o edit
    → get o.books b ≡ Some old → get (apply o edit).books b ≡ Some new
    → new.changes ≡ fold touched old.changes (names_in b (touches edit))

-- numbers before and after, where these names are touched and no other
pub record Renumbers (old new : Numbers) (names : List (List ℕ)) : Type 0 where
  -- one number is taken for each touch
  pub number : new.number ≡ old.number + length names
  -- the last change of a touched name is a new one
  pub touched : (name : List ℕ) → Contains names name
      → (n : ℕ) × (get new.last name ≡ Some n) × (old.number < n) × (n ≤ new.number)
  -- the last change of each other name is as it was
  pub others : (name : List ℕ) → (Contains names name → ⊥) → get new.last name ≡ get old.last name

abbrev pub TouchedNamesAloneChange : Type 0
TouchedNamesAloneChange = (o : Office) (edit : Edit) (b : List ℕ) (old new : Book) → IsPossible o edit
    → get o.books b ≡ Some old → get (apply o edit).books b ≡ Some new
    → Renumbers old.changes new.changes (names_in b (touches edit))

-- a book before and after, where one name of it is touched: that name's last change is the book's, and all else stays
pub record ChangesOneName (old new : Book) (c : List ℕ) : Type 0 where
  pub number : new.changes.number ≡ old.changes.number + 1
  pub touched : get new.changes.last c ≡ Some new.changes.number
  pub others : (name : List ℕ) → name ≢ c → get new.changes.last name ≡ get old.changes.last name
  pub cards : (name : List ℕ) → name ≢ c → get new.cards name ≡ get old.cards name
  pub properties : new.properties ≡ old.properties

abbrev pub PutCardChangesOneName : Type 0
PutCardChangesOneName = (o : Office) (b c : List ℕ) (owner : Option (List ℕ)) (text : List ℕ) (old : Book)
    → get o.books b ≡ Some old
    → (new : Book) × (get (apply o (PutCard b c owner text)).books b ≡ Some new)
    × (get new.cards c ≢ None) × ChangesOneName old new c

abbrev pub RemoveCardChangesOneName : Type 0
RemoveCardChangesOneName = (o : Office) (b c : List ℕ) (old : Book)
    → get o.books b ≡ Some old
    → (new : Book) × (get (apply o (RemoveCard b c)).books b ≡ Some new)
    × (get new.cards c ≡ None) × ChangesOneName old new c

-- of a COPY the destination alone changes
abbrev pub CopyCardChangesOneName : Type 0
CopyCardChangesOneName = (o : Office) (from_book from_card to_book to_card : List ℕ) (owner : Option (List ℕ)) (old : Book)
    → card_at o from_book from_card ≢ None → get o.books to_book ≡ Some old
    → (new : Book) × (get (apply o (CopyCard from_book from_card to_book to_card owner)).books to_book ≡ Some new)
    × (get new.cards to_card ≢ None) × ChangesOneName old new to_card

-- a MOVE to another book takes the whole card from a name of the one and puts it at a name of the other
abbrev pub MoveAcrossChangesANameOfEach : Type 0
MoveAcrossChangesANameOfEach = (o : Office) (from_book from_card to_book to_card : List ℕ) (source target : Book) (card : StoredCard) → from_book ≢ to_book
    → get o.books from_book ≡ Some source → get source.cards from_card ≡ Some card → get o.books to_book ≡ Some target
    → (left arrived : Book)
    × (get (apply o (MoveCard from_book from_card to_book to_card)).books from_book ≡ Some left)
    × (get left.cards from_card ≡ None) × ChangesOneName source left from_card
    × (get (apply o (MoveCard from_book from_card to_book to_card)).books to_book ≡ Some arrived)
    × (get arrived.cards to_card ≡ Some card) × ChangesOneName target arrived to_card

-- a book before and after, where one name of it is touched and then another: each takes a number, and all else stays
pub record ChangesTwoNames (old new : Book) (one other : List ℕ) : Type 0 where
  pub number : new.changes.number ≡ old.changes.number + 2
  pub first : get new.changes.last one ≡ Some (old.changes.number + 1)
  pub second : get new.changes.last other ≡ Some new.changes.number
  pub others : (name : List ℕ) → name ≢ one → name ≢ other → get new.changes.last name ≡ get old.changes.last name
  pub cards : (name : List ℕ) → name ≢ one → name ≢ other → get new.cards name ≡ get old.cards name
  pub properties : new.properties ≡ old.properties

-- a MOVE within a book takes the whole card from the one name and puts it at the other
abbrev pub MoveWithinChangesTwoNames : Type 0
MoveWithinChangesTwoNames = (o : Office) (b from_card to_card : List ℕ) (old : Book) (card : StoredCard) → from_card ≢ to_card
    → get o.books b ≡ Some old → get old.cards from_card ≡ Some card
    → (new : Book) × (get (apply o (MoveCard b from_card b to_card)).books b ≡ Some new)
    × (get new.cards from_card ≡ None) × (get new.cards to_card ≡ Some card) × ChangesTwoNames old new from_card to_card

-- the label of a card: the card gets it, and its name takes the next number
abbrev pub CardLabelChangesOneName : Type 0
CardLabelChangesOneName = (o : Office) (b c label : List ℕ) (old : Book) (card : StoredCard)
    → get o.books b ≡ Some old → get old.cards c ≡ Some card
    → (new : Book) × (get (apply o (SetLabel (path.Card b c) label)).books b ≡ Some new)
    × (get new.cards c ≡ Some (record card { label = label })) × ChangesOneName old new c

-- a new book has the number 0, no cards and no removed names
abbrev pub NewBookHasNoChanges : Type 0
NewBookHasNoChanges = (o : Office) (b : List ℕ) (owner : Option (List ℕ))
    → (new : Book) × (get (apply o (AddBook b owner)).books b ≡ Some new) × (new.changes.number ≡ 0)
    × ((name : List ℕ) → get new.cards name ≡ None) × ((name : List ℕ) → get new.changes.last name ≡ None)

-- a book that is removed goes with its cards and removed names
abbrev pub RemovedBookIsGone : Type 0
RemovedBookIsGone = (o : Office) (b : List ℕ) → get (apply o (RemoveBook b)).books b ≡ None
