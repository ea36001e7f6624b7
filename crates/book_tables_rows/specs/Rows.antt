-- The rows of the tables, and tests on their columns.
use Rattle.std.specs.Prelude.{◌≡◌, ℕ, Bool, List, []}
use Rattle.sqlite.specs.Collation.TheVariants.{Binary}
use Rattle.sqlite.specs.declared.types.Value.{Value}
use Rattle.sqlite.specs.Effect.{Database, IsDatabase}
use Rattle.sqlite.specs.Order.{Row, column}
use Rattle.sqlite.specs.Table.{Table}
use Rattle.sqlite.specs.Tree.{Trees}
use Rattle.sqlite_rules.specs.Lists.{Has}
use Rattle.sqlite_schema.specs.Rules.{equal}
use Rattle.sqlite_trees.specs.View.{IsShaped}
use Rattle.sqlite_trees.specs.declared.store.Shape.TheVariants.{Table as TableShape}
use Rattle.book_tables_rows.specs.Schema.{book_schema, node_tree, ace_tree, ace2_tree, member_tree, gone_tree, meta_tree, reach_tree}

-- the rows of the tables: the entries are those of `ace2`
pub record Rows : Type 0 where
  pub nodes : List Row
  pub entries : List Row
  pub members : List Row
  pub gone : List Row
  pub meta : List Row
  pub reach : List Row

abbrev pub rows_of : Trees → Rows
rows_of trees = record { nodes = trees node_tree; entries = trees ace2_tree; members = trees member_tree; gone = trees gone_tree; meta = trees meta_tree; reach = trees reach_tree }

-- the row has this value in a column, as SQL compares values
abbrev pub has : ℕ → Value → Row → Bool
has place value row = equal Binary (column row place) value

-- the tables are there with their columns and rules, `reach` among them, their rows rise by their numbers, and `ace` is empty
pub record IsBook (db : Database) : Type 0 where
  pub schema : db.schema ≡ book_schema
  pub rules : IsDatabase db
  pub rising : (t : Table) → Has book_schema.tables t → IsShaped TableShape (db.trees t.tree)
  pub former : db.trees ace_tree ≡ []

-- a store with these trees
abbrev pub in_store : Trees → Database
in_store trees = record { schema = book_schema; trees = trees }
