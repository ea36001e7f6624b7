-- When an Office is sound.
use Rattle.std.specs.Prelude.{◌≡◌, ◌≢◌, ◌⊎◌, ℕ, ◌≤◌, List, length, Option, Some, None, All, true}
use Rattle.std.specs.FinMap.{get, len}
use Rattle.std.specs.FinSet as set
use Rattle.book_lists.specs.Memberships.{members_of}
use Rattle.book_lists.specs.declared.entries.Entry.{Entry}
use Rattle.book_lists.specs.declared.entries.Who.{Who}
use Rattle.book_lists.specs.declared.entries.Who.TheVariants.{Href, Everyone, Authenticated, Unauthenticated, Owner, Own}
use Rattle.book_lists.specs.declared.memberships.Membership.{Membership}
use Rattle.book_lists.specs.Names.{IsName}
use Rattle.book_lists.specs.Principals.{person_path, group_path}
use Rattle.book_office.specs.declared.edits.Edit.{Edit}
use Rattle.book_office.specs.declared.edits.Edit.TheVariants.{PutCard, RemoveCard, CopyCard, MoveCard, AddBook, RemoveBook, SetLabel, SetList, SetMembers, Adopt}
use Rattle.book_office_values.specs.declared.offices.Book.{Book}
use Rattle.book_office_values.specs.declared.offices.StoredCard.{StoredCard}
use Rattle.book_office_values.specs.declared.offices.Office.{Office}
use Rattle.book_office_values.specs.declared.offices.Properties.{Properties}
use Rattle.book_office_values.specs.Texts.{IsLabel, IsCardText}
use Rattle.book_limits.specs.declared.TheConstants.{MAX_ENTRIES, MAX_MEMBERS, MAX_CARDS, MAX_BOOKS, LAST_NUMBER}
use Rattle.book_office.specs.Edits.{apply}
use Rattle.book_office.specs.Resources.{card_at, resource_at}

abbrev pub IsMappedPerson : Office → List ℕ → Type 0
IsMappedPerson o principal = (name : List ℕ) × (principal ≡ person_path name) × (get o.persons name ≢ None)

abbrev pub IsMappedGroup : Office → List ℕ → Type 0
IsMappedGroup o principal = (name : List ℕ) × (principal ≡ group_path name) × (get o.groups name ≢ None)

-- the path of a person or group that is there
abbrev pub IsMapped : Office → List ℕ → Type 0
IsMapped o principal = IsMappedPerson o principal ⊎ IsMappedGroup o principal

-- the principal is mapped, if there is one
abbrev pub IsOwner : Office → Option (List ℕ) → Type 0
IsOwner o None = Unit {0}
IsOwner o (Some owner) = IsMapped o owner

-- the principal of an entry's form is mapped, if it names one
abbrev pub IsKnownForm : Office → Who → Type 0
IsKnownForm o (Href principal) = IsMapped o principal
IsKnownForm o Everyone = Unit {0}
IsKnownForm o Authenticated = Unit {0}
IsKnownForm o Unauthenticated = Unit {0}
IsKnownForm o Owner = Unit {0}
IsKnownForm o Own = Unit {0}

pub record IsSoundList (o : Office) (list : List Entry) : Type 0 where
  pub few : length list ≤ MAX_ENTRIES
  pub known : All (λ (entry : Entry). IsKnownForm o entry.who) list

pub record AreSoundProperties (o : Office) (properties : Properties) : Type 0 where
  pub owner : IsOwner o properties.owner
  pub label : IsLabel properties.label
  pub protected : IsSoundList o properties.protected
  pub own : IsSoundList o properties.own

pub record IsSoundCard (o : Office) (card : StoredCard) : Type 0 where
  pub owner : IsOwner o card.owner
  pub label : IsLabel card.label
  pub own : IsSoundList o card.own
  pub text : IsCardText card.text

pub record IsSoundBook (o : Office) (book : Book) : Type 0 where
  pub properties : AreSoundProperties o book.properties
  pub cards : (name : List ℕ) (card : StoredCard) → get book.cards name ≡ Some card → IsSoundCard o card
  pub few : len book.cards ≤ MAX_CARDS
  -- every card has a last change, and every name that changed is a name
  pub changed : (name : List ℕ) (card : StoredCard) → get book.cards name ≡ Some card → get book.changes.last name ≢ None
  pub names : (name : List ℕ) (n : ℕ) → get book.changes.last name ≡ Some n → IsName name
  -- numbers are from 1 to the book's, and all different
  pub within : (name : List ℕ) (n : ℕ) → get book.changes.last name ≡ Some n → (1 ≤ n) × (n ≤ book.changes.number)
  pub different : (a b : List ℕ) (n : ℕ) → get book.changes.last a ≡ Some n → get book.changes.last b ≡ Some n → a ≡ b
  pub last : book.changes.number ≤ LAST_NUMBER

-- a direct member of a group: both are there
pub record IsSoundPair (o : Office) (pair : Membership) : Type 0 where
  pub group : IsMappedGroup o pair.group
  pub member : IsMapped o pair.member

pub record IsSound (o : Office) : Type 0 where
  pub root : AreSoundProperties o o.root
  pub people : AreSoundProperties o o.people
  pub groups_home : AreSoundProperties o o.groups_home
  pub books_home : AreSoundProperties o o.books_home
  pub persons : (name : List ℕ) (properties : Properties) → get o.persons name ≡ Some properties → IsName name × AreSoundProperties o properties
  pub groups : (name : List ℕ) (properties : Properties) → get o.groups name ≡ Some properties → IsName name × AreSoundProperties o properties
  pub books : (name : List ℕ) (book : Book) → get o.books name ≡ Some book → IsName name × IsSoundBook o book
  pub few : len o.books ≤ MAX_BOOKS
  pub pairs : (pair : Membership) → set.contains o.pairs pair ≡ true → IsSoundPair o pair
  pub members : (group : List ℕ) → set.len (members_of o.pairs group) ≤ MAX_MEMBERS
  pub epoch : o.epoch ≤ LAST_NUMBER

-- what an edit names as present is mapped, and what it adds is not, and has a mapped parent
abbrev pub IsPossible : Office → Edit → Type 0
IsPossible o (PutCard b c owner text) = get o.books b ≢ None
IsPossible o (RemoveCard b c) = card_at o b c ≢ None
IsPossible o (CopyCard from_book from_card to_book to_card owner) = (card_at o from_book from_card ≢ None) × (get o.books to_book ≢ None)
IsPossible o (MoveCard from_book from_card to_book to_card) =
    (card_at o from_book from_card ≢ None) × (get o.books to_book ≢ None) × (from_book ≡ to_book → from_card ≢ to_card)
IsPossible o (AddBook b owner) = get o.books b ≡ None
IsPossible o (RemoveBook b) = get o.books b ≢ None
IsPossible o (SetLabel p label) = resource_at o p ≢ None
IsPossible o (SetList p list) = resource_at o p ≢ None
IsPossible o (SetMembers group members) = IsMappedGroup o group
IsPossible o (Adopt t) = Unit {0}

-- an edit fits where it is possible, and leaves a sound Office
pub record Fits (o : Office) (edit : Edit) : Type 0 where
  pub possible : IsPossible o edit
  pub sound : IsSound (apply o edit)
