-- What the entries of all children, shown together, tell of one child.
use Rattle.std.specs.Prelude.{ℕ, ℤ, ◌≤ℤ◌, Bool, List, map, filter, true, false}
use Rattle.std.specs.Ordering.{int_eq}
use Rattle.sqlite.specs.declared.types.Value.{Value}
use Rattle.sqlite.specs.Edit.{id_in}
use Rattle.sqlite.specs.Order.{Row, column}
use Rattle.sqlite_trees.specs.Tree.{IsAscending}
use Rattle.book_lists.specs.declared.entries.Entry.{Entry}
use Rattle.book_office.specs.declared.nodes.Changed.{Changed}
use Rattle.book_office.specs.declared.nodes.Listed.{Listed}
use Rattle.book_tables_rows.specs.Lists.{listed_entry_place, listed_protected}
use Rattle.book_tables_rows.specs.Writes.{flag}
use Rattle.book_tables.specs.Children.{listed_shown}
use Rattle.book_tables.specs.LastChanges.{changed_shown}
use Rattle.book_tables.specs.Listing.{entry_shown}

-- what is shown of a child, of a changed card and of an entry of theirs begins with the number of the node
abbrev pub shown_first : Row → Value
shown_first row = column row 0

-- the number of the node whose row or whose entry it is
abbrev pub node_in : Row → ℤ
node_in row = id_in (shown_first row)

-- no entry is of a node with a number below that of an entry before it
abbrev pub DoNotFall : List Row → Type 0
DoNotFall = IsAscending (λ a b. node_in a ≤ℤ node_in b)

-- the entry is of the node with a number, or of its protected or its own list
abbrev pub is_of : ℤ → Row → Bool
is_of node row = int_eq (node_in row) node

abbrev pub is_listed : Bool → Row → Bool
is_listed protected row = int_eq (id_in (listed_protected row)) (id_in (flag protected))

-- the protected or the own list that these entries of one node tell, and that the entries of many tell of one
abbrev pub list_among : Bool → List Row → List Entry
list_among protected shown = map (entry_shown listed_entry_place) (filter (is_listed protected) shown)

abbrev pub list_of : List Row → ℤ → Bool → List Entry
list_of shown node protected = list_among protected (filter (is_of node) shown)

-- the child of a row, with its lists
abbrev pub child_among : List Row → List ℕ → Row → Listed
child_among shown front row = listed_shown front (list_of shown (node_in row) true) (list_of shown (node_in row) false) row

-- the change of a card, with its own list
abbrev pub card_among : List Row → List ℕ → Row → Changed
card_among shown front row = changed_shown front (list_of shown (node_in row) false) row
