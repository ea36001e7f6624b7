-- For which Office the tables stand.
use Rattle.std.specs.Prelude.{◌≡◌, ℕ, pos, Bool, List, drop, Option, Some, None, IsTrue}
use Rattle.std.specs.FinSet as set
use Rattle.std.specs.List.{AllByRecursion}
use Rattle.sqlite.specs.declared.types.Value.{Value}
use Rattle.sqlite.specs.declared.types.Value.TheVariants.{Null, Int, Text}
use Rattle.sqlite.specs.Order.{Row}
use Rattle.sqlite.specs.Tree.{Trees, rowid}
use Rattle.sqlite.specs.Effect.{Database}
use Rattle.sqlite.specs.Schema.{Schema}
use Rattle.sqlite.specs.State.{State}
use Rattle.sqlite_rules.specs.Lists.{Has}
use Rattle.book_lists.specs.Names.{IsName}
use Rattle.book_lists.specs.declared.memberships.Membership.{Membership}
use Rattle.book_office_values.specs.declared.offices.Office.{Office}
use Rattle.book_office_values.specs.declared.paths.Path.{Path}
use Rattle.book_office_values.specs.declared.paths.Path.TheVariants as path
use Rattle.book_office_values.specs.Paths.{IsPath, path_text, parent_of, kind_of, kind_code}
use Rattle.book_office.specs.Keeping.{Leftover, whole, broken}
use Rattle.book_office.specs.Resources.{resource_at, removed_at}
use Rattle.book_office.specs.Sound.{IsSound}
use Rattle.book_tables_rows.specs.Columns.{ace_node, ace_place, ace_protected, gone_book, gone_name, gone_number, node_kind, node_number, node_parent, node_path}
use Rattle.book_tables_rows.specs.Nodes.{number_in}
use Rattle.book_tables_rows.specs.Rows.{Rows, rows_of, IsBook}
use Rattle.book_tables_rows.specs.Writes.{IsMeta, flag}
use Rattle.book_tables_schema.specs.OtherReach.{HasBase}
use Rattle.book_tables.specs.Reach.{HoldsReach}
use Rattle.book_tables.specs.Rows.{row_at, resource_in, has_member, removed_in, entry_of, entry_values}

-- ---- the form of a row

-- the value is the number of the row at the path above, and NULL for the root
abbrev pub IsParent : Rows → Value → Option Path → Type 0
IsParent rows value None = value ≡ Null
IsParent rows value (Some above) = (row : Row) × (row_at rows (path_text above) ≡ Some row) × (value ≡ rowid row)

-- a row of `node` is that of a path: its kind is the path's, its parent the row at the path above, its number no less than 0
pub record IsNodeAt (rows : Rows) (row : Row) (p : Path) : Type 0 where
  pub named : IsPath p
  pub path : node_path row ≡ Text (path_text p)
  pub parent : IsParent rows (node_parent row) (parent_of p)
  pub kind : node_kind row ≡ Int (pos (kind_code (kind_of p)))
  pub number : node_number row ≡ Int (pos (number_in (node_number row)))

abbrev pub IsNode : Rows → Row → Type 0
IsNode rows row = (p : Path) × IsNodeAt rows row p

-- a row of `ace2` is an entry of a node, in one of its two lists, and is spelled in the one way
pub record IsEntry (rows : Rows) (row : Row) : Type 0 where
  pub node : Row
  pub there : Has rows.nodes node
  pub its : ace_node row ≡ rowid node
  pub list : Bool
  pub protected : ace_protected row ≡ flag list
  pub place : ace_place row ≡ Int (pos (number_in (ace_place row)))
  pub spelled : drop 4 row ≡ entry_values (entry_of row)

-- a row of `gone` is a removed name of a book
pub record IsRemoved (rows : Rows) (row : Row) : Type 0 where
  pub book : List ℕ
  pub named : IsName book
  pub there : IsParent rows (gone_book row) (Some (path.Book book))
  pub name : List ℕ
  pub spelled : gone_name row ≡ Text name
  pub number : gone_number row ≡ Int (pos (number_in (gone_number row)))

-- ---- the Office of the rows

-- the rows give the Office
pub record Gives (rows : Rows) (o : Office) : Type 0 where
  pub nodes : AllByRecursion (IsNode rows) rows.nodes
  pub entries : AllByRecursion (IsEntry rows) rows.entries
  pub removed : AllByRecursion (IsRemoved rows) rows.gone
  -- at each path the Office has the resource of the row whose path is its text, its lists in order of place, and nothing where no row has it
  pub resources : (p : Path) → IsPath p → resource_in rows (path_text p) ≡ resource_at o p
  -- the pairs of group and member are those of `member`
  pub members : (m : Membership) → has_member rows m ≡ set.contains o.pairs m
  -- the removed names of a book and their numbers are those of `gone`
  pub gone : (b name : List ℕ) → IsName b → removed_in rows b name ≡ removed_at o b name
  -- `meta` has one row, with version 2 and the epoch
  pub meta : IsMeta rows.meta o.epoch

-- the tables are there with their columns and rules, their rows give the Office, and it is sound: nothing is said of `reach`, which
-- may have any columns and rows, or not be there
pub record Stands (db : Database) (o : Office) : Type 0 where
  pub base : HasBase db
  pub gives : Gives (rows_of db.trees) o
  pub sound : IsSound o

-- ---- a connection

-- the same of tables that are kept: they have `reach`, which holds what chains of the Office's direct members lead to
pub record IsKept (db : Database) (o : Office) : Type 0 where
  pub book : IsBook db
  pub gives : Gives (rows_of db.trees) o
  pub sound : IsSound o
  pub reach : HoldsReach (rows_of db.trees).reach o.pairs

-- what an open connection shows stands for the Office; one that a fault has shut shows nothing
abbrev pub StandsFor : State → Office → Type 0
StandsFor s o = (IsTrue s.is_open → IsKept s.now o) × IsSound o

-- a store with these trees stands for the Office, or for none
abbrev pub LeftBy : Trees → Leftover → Type 0
LeftBy trees (whole o) = (s : Schema) × Stands (record { schema = s; trees = trees }) o
LeftBy trees broken = (s : Schema) (o : Office) → ¬ Stands (record { schema = s; trees = trees }) o

-- what a stop now may leave: what the trees stand for that the store may then have
abbrev pub LeftOf : State → Leftover → Type 0
LeftOf s left = (trees : Trees) × s.may_leave trees × LeftBy trees left
