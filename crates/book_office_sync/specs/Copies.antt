-- What a caller may read of a book, the reports on it, and the copies that they keep (RFC 6578, section 3).
use Rattle.std.specs.Prelude.{◌≡◌, ℕ, ◌<◌, ◌≤◌, ◌⊎◌, Bool, true, false, not, List, [], ◌∷◌, map, length, ⊤, nat_lt, nat_le, ◌==◌, ◌&&◌, is_some, filter, Option, Some, None, option_map, option_and_then, unwrap_or, if◌then◌else◌}
use Rattle.std.specs.FinMap.{get, insert, remove, empty}
use Rattle.std.specs.Str.{bytes_eq}
use Rattle.book_rights.specs.declared.privileges.Leaf.{Leaf}
use Rattle.book_rights.specs.declared.privileges.Leaf.TheVariants.{ReadTexts, ReadNames}
use Rattle.book_lists.specs.Circles.{CircleOf}
use Rattle.book_lists.specs.Decisions.{bears}
use Rattle.book_lists.specs.declared.entries.Entry.{Entry}
use Rattle.book_lists.specs.declared.entries.Here.{Here}
use Rattle.book_office_values.specs.Changes.{Change, changes_after, first_of}
use Rattle.book_office_values.specs.Names.{NamesTo}
use Rattle.book_office_values.specs.declared.offices.Book.{Book}
use Rattle.book_office_values.specs.declared.offices.StoredCard.{StoredCard}
use Rattle.book_office_values.specs.declared.offices.Office.{Office}
use Rattle.book_office_values.specs.declared.paths.Path.TheVariants as path
use Rattle.book_office.specs.OwnLists.{entries_in_force}
use Rattle.book_limits.specs.declared.TheConstants.{MAX_CARDS}
use Rattle.book_office.specs.Resources.{number_of}
use Rattle.book_office_sync.specs.declared.messages.Found.{Found}
use Rattle.book_office_sync.specs.declared.messages.Item.{Item}
use Rattle.book_office_sync.specs.declared.messages.Report.{Report}
use Rattle.book_office_sync.specs.declared.messages.Seen.{Seen}
use Rattle.book_office_sync.specs.declared.messages.Token.{Token}

-- whether the first entry that applies and holds the leaf grants it
abbrev pub grants : List Entry → CircleOf → Here → Leaf → Bool
grants [] circle here leaf = false
grants (e ∷ es) circle here leaf = if bears circle here leaf e then not e.deny else grants es circle here leaf

-- whether `read` is granted: each of its leaves is
abbrev pub grants_read : List Entry → CircleOf → Here → Bool
grants_read entries circle here = grants entries circle here ReadTexts && grants entries circle here ReadNames

-- what entries ask of a card
abbrev pub here_of_card : StoredCard → Here
here_of_card card = record { owner = card.owner; principal = None }

abbrev pub can_read : Office → CircleOf → List ℕ → List ℕ → StoredCard → Bool
can_read o circle b c card = grants_read (entries_in_force o (path.Card b c)) circle (here_of_card card)

abbrev pub shown : ℕ → StoredCard → Seen
shown number card = record { number = number; label = card.label; text = card.text }

-- what the caller with this circle sees at a name of a book: the card, where there is one and it may be read
abbrev pub seen_in : Office → CircleOf → List ℕ → List ℕ → Book → Option Seen
seen_in o circle b c book = option_and_then (λ (card : StoredCard). if can_read o circle b c card then Some (shown (number_of book c) card) else None) (get book.cards c)

abbrev pub seen : Office → CircleOf → List ℕ → List ℕ → Option Seen
seen o circle b c = option_and_then (seen_in o circle b c) (get o.books b)

-- the copy is the View: what the caller may read of the book
abbrev pub IsView : NamesTo Seen → Office → CircleOf → List ℕ → Type 0
IsView copy o circle b = (c : List ℕ) → get copy c ≡ seen o circle b c

-- the number of the last change of a name, 0 where it never changed
abbrev pub last_change : Office → List ℕ → List ℕ → ℕ
last_change o b c = unwrap_or (option_map (λ (book : Book). number_of book c) (get o.books b)) 0

-- the copy and the View agree on every name but those that changed after n
abbrev pub Right : NamesTo Seen → Office → CircleOf → List ℕ → ℕ → Type 0
Right copy o circle b n = (c : List ℕ) → last_change o b c ≤ n → get copy c ≡ seen o circle b c

abbrev pub found_of : Seen → Found
found_of s = record { label = s.label; text = s.text }

-- what a report says of a change
abbrev pub item_of : Office → CircleOf → List ℕ → Change → Item
item_of o circle b change = record { name = change.1; number = change.0; found = option_map found_of (seen o circle b change.1) }

-- a limit on a report is from 1 to the most cards of a book (RFC 6578, section 3.7)
abbrev pub IsLimit : Option ℕ → Type 0
IsLimit None = ⊤
IsLimit (Some limit) = (1 ≤ limit) × (limit ≤ MAX_CARDS)

-- the number of the last of the changes, or else the one before them
abbrev pub last_number : ℕ → List Change → ℕ
last_number n [] = n
last_number n (c ∷ cs) = last_number c.0 cs

-- whether changes remain
abbrev pub is_cut : {A : Type 0} → Option ℕ → List A → Bool
is_cut None changes = false
is_cut (Some limit) changes = nat_lt limit (length changes)

-- the number after which a report is asked: that of the token, and from the start without one
abbrev pub start_of : Option Token → ℕ
start_of None = 0
start_of (Some token) = token.number

-- what a report lists of the changes: all of them, and without a token the cards that may be read
abbrev pub listed_changes : Office → CircleOf → List ℕ → Option Token → List Change → List Change
listed_changes o circle b None changes = filter (λ (c : Change). is_some (seen o circle b c.1)) changes
listed_changes o circle b (Some token) changes = changes

-- what a report is about: the changes after the token's number
abbrev pub reported : Office → CircleOf → List ℕ → Book → Option Token → List Change
reported o circle b book token = listed_changes o circle b token (changes_after book.changes.last (start_of token))

abbrev pub report_of : Office → CircleOf → List ℕ → Book → ℕ → Option ℕ → List Change → Report
report_of o circle b book n limit changes = record {
  items = map (item_of o circle b) (first_of limit changes);
  truncated = is_cut limit changes;
  token = record { book = b; epoch = o.epoch; number = if is_cut limit changes then last_number n (first_of limit changes) else book.changes.number };
}

-- the report on a book after a token, or the initial one
abbrev pub report : Office → CircleOf → List ℕ → Book → Option Token → Option ℕ → Report
report o circle b book token limit = report_of o circle b book (start_of token) limit (reported o circle b book token)

-- a token is valid where it names this book, the present epoch, and a number that the book has reached
abbrev pub is_valid : Office → List ℕ → Book → Option Token → Bool
is_valid o b book None = true
is_valid o b book (Some token) = bytes_eq token.book b && token.epoch == o.epoch && nat_le token.number book.changes.number

abbrev pub sync_of : Office → CircleOf → List ℕ → Option Token → Option ℕ → Book → Option Report
sync_of o circle b token limit book = if is_valid o b book token then Some (report o circle b book token limit) else None

-- the answer to a sync request on a book: the report where the token is valid
abbrev pub sync : Office → CircleOf → List ℕ → Option Token → Option ℕ → Option Report
sync o circle b token limit = option_and_then (sync_of o circle b token limit) (get o.books b)

-- a copy with what a report says of a name
abbrev pub patched : NamesTo Seen → Item → Option Found → NamesTo Seen
patched copy item None = remove copy item.name
patched copy item (Some found) = insert copy item.name (record { number = item.number; label = found.label; text = found.text })

-- Patch: a copy with what a report says
abbrev pub patch : NamesTo Seen → List Item → NamesTo Seen
patch copy [] = copy
patch copy (item ∷ items) = patch (patched copy item item.found) items

-- from one book to a later one: a name is as it was, or it took a number that the book hadn't reached
pub record KeptBook (x y : Book) : Type 0 where
  pub protected : y.properties.protected ≡ x.properties.protected
  pub own : y.properties.own ≡ x.properties.own
  pub number : x.changes.number ≤ y.changes.number
  pub names : (c : List ℕ) → ((get y.changes.last c ≡ get x.changes.last c) × (get y.cards c ≡ get x.cards c)) ⊎ ((m : ℕ) × (get y.changes.last c ≡ Some m) × (x.changes.number < m))

-- from one Office to a later one of the same epoch
pub record Kept (o p : Office) : Type 0 where
  pub pairs : p.pairs ≡ o.pairs
  pub root_protected : p.root.protected ≡ o.root.protected
  pub root_own : p.root.own ≡ o.root.own
  pub home_protected : p.books_home.protected ≡ o.books_home.protected
  pub home_own : p.books_home.own ≡ o.books_home.own
  pub books : (b : List ℕ) (x : Book) → get o.books b ≡ Some x → (y : Book) × (get p.books b ≡ Some y) × KeptBook x y

-- from one Office to a later one: the epoch rises, or it stays and with it who may read what doesn't change
abbrev pub Later : Office → Office → Type 0
Later o p = (o.epoch < p.epoch) ⊎ ((p.epoch ≡ o.epoch) × Kept o p)

-- a copy that was right by a token is right again when it is patched by a later report, and after a report that isn't truncated it is the View
abbrev pub Follows : Office → Office → CircleOf → Token → Report → Type 0
Follows o p circle t r =
    (copy : NamesTo Seen) → Right copy o circle t.book t.number
    → Right (patch copy r.items) p circle t.book r.token.number × (r.truncated ≡ false → IsView (patch copy r.items) p circle t.book)

-- the empty copy is right when it is patched by an initial report, and after one that isn't truncated it is the View
abbrev pub Begins : Office → CircleOf → List ℕ → Report → Type 0
Begins o circle b r =
    Right (patch empty r.items) o circle b r.token.number × (r.truncated ≡ false → IsView (patch empty r.items) o circle b)

-- a token is one of this Office: it names its epoch, and a number that its book has reached
abbrev pub IsTokenOf : Office → Token → Type 0
IsTokenOf o t = (book : Book) × (get o.books t.book ≡ Some book) × (t.epoch ≡ o.epoch) × (t.number ≤ book.changes.number)

-- a report brings copies to the present: without a token the empty copy, and after a token of an earlier Office each copy that was right by it
abbrev pub BringsCopies : Office → CircleOf → List ℕ → Option Token → Report → Type 0
BringsCopies o circle b None r = Begins o circle b r
BringsCopies o circle b (Some t) r = (p : Office) → Later p o → IsTokenOf p t → Follows p o circle t r
