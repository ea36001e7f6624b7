-- When an edit of a sound Office fits: it stays within the limits, and names what may be there.
use Rattle.std.specs.Prelude.{◌≡◌, ◌≢◌, ◌⊎◌, ℕ, ◌+◌, ◌<◌, ◌≤◌, List, length, Option, Some, None, All}
use Rattle.std.specs.FinMap.{get, len}
use Rattle.book_lists.specs.Names.{IsName}
use Rattle.book_office.specs.declared.edits.Edit.TheVariants.{PutCard, RemoveCard, CopyCard, MoveCard, AddBook, RemoveBook, SetLabel, SetList, SetMembers, Adopt}
use Rattle.book_office_values.specs.declared.offices.Book.{Book}
use Rattle.book_office_values.specs.declared.offices.Office.{Office}
use Rattle.book_office_values.specs.Texts.{IsLabel, IsCardText}
use Rattle.book_limits.specs.declared.TheConstants.{MAX_MEMBERS, MAX_CARDS, MAX_BOOKS, LAST_NUMBER}
use Rattle.book_policy_values.specs.Policies.{IsPolicy}
use Rattle.book_policy_values.specs.declared.parts.PolicyTables.{PolicyTables}
use Rattle.book_office_adopting.specs.Adopting.{adopt}
use Rattle.book_lists.specs.declared.entries.Entry.{Entry}
use Rattle.book_office_values.specs.declared.paths.Path.{Path}
use Rattle.book_office_values.specs.declared.paths.Path.TheVariants as path
use Rattle.book_office.specs.Resources.{card_at, resource_at}
use Rattle.book_office.specs.Sound.{IsMapped, IsMappedGroup, IsOwner, IsSoundList, IsSound, Fits}

-- a card of this name is there, or one more has room
abbrev pub HasRoom : Book → List ℕ → Type 0
HasRoom book c = (get book.cards c ≢ None) ⊎ (len book.cards < MAX_CARDS)

abbrev pub PutCardFits : Type 0
PutCardFits = (o : Office) (b c : List ℕ) (owner : Option (List ℕ)) (text : List ℕ) (book : Book) → IsSound o
    → get o.books b ≡ Some book → IsName c → IsOwner o owner
    → book.changes.number < LAST_NUMBER → HasRoom book c → IsCardText text
    → Fits o (PutCard b c owner text)

abbrev pub RemoveCardFits : Type 0
RemoveCardFits = (o : Office) (b c : List ℕ) (book : Book) → IsSound o
    → get o.books b ≡ Some book → get book.cards c ≢ None → book.changes.number < LAST_NUMBER
    → Fits o (RemoveCard b c)

abbrev pub CopyCardFits : Type 0
CopyCardFits = (o : Office) (from_book from_card to_book to_card : List ℕ) (owner : Option (List ℕ)) (target : Book) → IsSound o
    → card_at o from_book from_card ≢ None → get o.books to_book ≡ Some target → IsName to_card → IsOwner o owner
    → target.changes.number < LAST_NUMBER → HasRoom target to_card
    → Fits o (CopyCard from_book from_card to_book to_card owner)

-- a move to another book: each of the two takes a number
abbrev pub MoveAcrossFits : Type 0
MoveAcrossFits = (o : Office) (from_book from_card to_book to_card : List ℕ) (source target : Book) → IsSound o → from_book ≢ to_book
    → get o.books from_book ≡ Some source → get source.cards from_card ≢ None
    → get o.books to_book ≡ Some target → IsName to_card
    → source.changes.number < LAST_NUMBER → target.changes.number < LAST_NUMBER → HasRoom target to_card
    → Fits o (MoveCard from_book from_card to_book to_card)

-- a move within a book: the book takes two numbers, and has no card more than before
abbrev pub MoveWithinFits : Type 0
MoveWithinFits = (o : Office) (b from_card to_card : List ℕ) (book : Book) → IsSound o → from_card ≢ to_card
    → get o.books b ≡ Some book → get book.cards from_card ≢ None → IsName to_card
    → book.changes.number + 1 < LAST_NUMBER
    → Fits o (MoveCard b from_card b to_card)

abbrev pub MoveCardFits : Type 0
MoveCardFits = MoveAcrossFits × MoveWithinFits

abbrev pub AddBookFits : Type 0
AddBookFits = (o : Office) (b : List ℕ) (owner : Option (List ℕ)) → IsSound o
    → get o.books b ≡ None → IsName b → IsOwner o owner → len o.books < MAX_BOOKS
    → Fits o (AddBook b owner)

abbrev pub RemoveBookFits : Type 0
RemoveBookFits = (o : Office) (b : List ℕ) → IsSound o
    → get o.books b ≢ None → o.epoch < LAST_NUMBER
    → Fits o (RemoveBook b)

-- the label of a card takes a number of its book, and any other takes none
abbrev pub HasNumberFor : Office → Path → Type 0
HasNumberFor o path.Root = Unit {0}
HasNumberFor o path.People = Unit {0}
HasNumberFor o path.Groups = Unit {0}
HasNumberFor o path.Books = Unit {0}
HasNumberFor o (path.Person n) = Unit {0}
HasNumberFor o (path.Group n) = Unit {0}
HasNumberFor o (path.Book b) = Unit {0}
HasNumberFor o (path.Card b c) = (book : Book) → get o.books b ≡ Some book → book.changes.number < LAST_NUMBER

abbrev pub SetLabelFits : Type 0
SetLabelFits = (o : Office) (p : Path) (label : List ℕ) → IsSound o
    → resource_at o p ≢ None → IsLabel label → HasNumberFor o p
    → Fits o (SetLabel p label)

-- at most 64 entries, and each principal that one names is there
abbrev pub SetListFits : Type 0
SetListFits = (o : Office) (p : Path) (list : List Entry) → IsSound o
    → resource_at o p ≢ None → IsSoundList o list → o.epoch < LAST_NUMBER
    → Fits o (SetList p list)

-- at most 1,000 members, each a person or group that is there; a member may be named more than once
abbrev pub SetMembersFits : Type 0
SetMembersFits = (o : Office) (group : List ℕ) (members : List (List ℕ)) → IsSound o
    → IsMappedGroup o group → All (IsMapped o) members → length members ≤ MAX_MEMBERS → o.epoch < LAST_NUMBER
    → Fits o (SetMembers group members)

abbrev pub AdoptFits : Type 0
AdoptFits = (o : Office) (t : PolicyTables) → IsSound o → IsPolicy t
    → len (adopt t o).books ≤ MAX_BOOKS → o.epoch < LAST_NUMBER
    → Fits o (Adopt t)
