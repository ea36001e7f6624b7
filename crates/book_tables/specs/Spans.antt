-- Whether nodes have no entries, by one look at the entries of the nodes in a span of numbers.
use Rattle.std.specs.Prelude.{◌≡◌, ℕ, ℤ, ◌≤ℤ◌, Bool, false, not, ◌&&◌, List, codes, IsTrue}
use Rattle.std.specs.List.{AllByRecursion, list_any}
use Rattle.sqlite.specs.Collation.TheVariants.{Binary}
use Rattle.sqlite.specs.Ops.{binary, is_true}
use Rattle.sqlite.specs.Order.{Row}
use Rattle.sqlite.specs.State.{State}
use Rattle.sqlite.specs.declared.types.Value.TheVariants.{Int}
use Rattle.sqlite_sql.specs.declared.ops.BinaryOp.TheVariants.{Compare}
use Rattle.sqlite_sql.specs.declared.ops.CompareOp.TheVariants.{Ge, Le}
use Rattle.book_tables_rows.specs.Columns.{ace_node, ace_node_place}
use Rattle.book_tables_rows.specs.Rows.{Rows, rows_of, has, IsBook}
use Rattle.book_tables.specs.Shares.{node_in}

abbrev pub list_between : List ℕ
list_between = codes "SELECT node FROM ace2 WHERE node >= ?1 AND node <= ?2 ORDER BY node LIMIT ?3"

-- the node of an entry has a number from the first to the last, as SQL compares values
abbrev pub is_between : ℤ → ℤ → Row → Bool
is_between first last entry = is_true (binary (Compare Ge Binary) (ace_node entry) (Int first)) && is_true (binary (Compare Le Binary) (ace_node entry) (Int last))

-- an open connection shows whether the node of no entry has
abbrev pub ShowsNoneBetween : State → ℤ → ℤ → Bool → Type 0
ShowsNoneBetween s first last none = IsTrue s.is_open × (IsBook s.now → none ≡ not (list_any (is_between first last) (rows_of s.now.trees).entries))

-- the numbers that the rows of nodes begin with are from the first to the last
abbrev pub AreWithin : ℤ → ℤ → List Row → Type 0
AreWithin first last = AllByRecursion (λ row. (first ≤ℤ node_in row) × (node_in row ≤ℤ last))

-- no entry is of a node whose row is shown
abbrev pub HaveNoEntries : Rows → List Row → Type 0
HaveNoEntries rows shown = AllByRecursion (λ row. AllByRecursion (λ entry. has ace_node_place (Int (node_in row)) entry ≡ false) rows.entries) shown

-- where it is told that the nodes of these rows have no entries, they have none
abbrev pub TellsNoEntries : State → List Row → Bool → Type 0
TellsNoEntries s shown none = IsBook s.now → IsTrue none → HaveNoEntries (rows_of s.now.trees) shown
