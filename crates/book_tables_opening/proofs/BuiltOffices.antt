-- An Office that is built of the rows: what its maps have, and how much at most.
use Rattle.book_tables_opening.proofs.Common.{◌≡◌, ◌≢◌, ℕ, Bool, ◌&&◌, nat_eq, ◌≤◌, List, length, filter, Some, None, get, len, Value, Text, Row, rowid, members_of, IsName, book_path, Book, Office, member_group_place, node_kind, node_parent_place, number_in, Rows, has, row_at, Gives}
use Rattle.std.specs.FinSet as set

-- a row of `node` has the kind with this code
abbrev pub of_kind : ℕ → Row → Bool
of_kind code row = nat_eq (number_in (node_kind row)) code

-- a row of `node` is a card's in the book with this number
abbrev pub is_card_in : Value → Row → Bool
is_card_in id row = of_kind 5 row && has node_parent_place id row

-- each card of a book has a last change, and each name that changed is a name
pub record HasChanges (book : Book) : Type 0 where
  pub changed : (name : List ℕ) → get book.cards name ≢ None → get book.changes.last name ≢ None
  pub names : (name : List ℕ) → get book.changes.last name ≢ None → IsName name

-- the rows give the Office, what its maps have are names, and they have no more than there are rows
pub record IsBuiltOf (rows : Rows) (o : Office) : Type 0 where
  pub gives : Gives rows o
  pub persons : (name : List ℕ) → get o.persons name ≢ None → IsName name
  pub groups : (name : List ℕ) → get o.groups name ≢ None → IsName name
  pub books : (name : List ℕ) → get o.books name ≢ None → IsName name
  pub changes : (name : List ℕ) (book : Book) → get o.books name ≡ Some book → HasChanges book
  pub few_books : len o.books ≤ length (filter (of_kind 4) rows.nodes)
  pub few_cards : (name : List ℕ) (book : Book) (row : Row) → get o.books name ≡ Some book → row_at rows (book_path name) ≡ Some row
      → len book.cards ≤ length (filter (is_card_in (rowid row)) rows.nodes)
  pub few_members : (group : List ℕ) → set.len (members_of o.pairs group) ≤ length (filter (has member_group_place (Text group)) rows.members)
