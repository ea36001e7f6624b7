-- A store whose tables are there, whatever rows they have.
use Rattle.std.specs.Prelude.{◌≡◌, []}
use Rattle.sqlite.specs.Effect.{Database, IsDatabase}
use Rattle.sqlite.specs.Schema.{Schema}
use Rattle.sqlite.specs.Table.{Table}
use Rattle.sqlite_rules.specs.Lists.{Has}
use Rattle.sqlite_trees.specs.View.{IsShaped}
use Rattle.sqlite_trees.specs.declared.store.Shape.TheVariants.{Table as TableShape}
use Rattle.book_tables_rows.specs.Rows.{IsBook}
use Rattle.book_tables_rows.specs.Schema.{book_schema, ace_tree}

-- the tables are there with their columns and rules, and their rows rise by their numbers
pub record HasTables (wanted : Schema) (db : Database) : Type 0 where
  pub schema : db.schema ≡ wanted
  pub rules : IsDatabase db
  pub rising : (t : Table) → Has wanted.tables t → IsShaped TableShape (db.trees t.tree)

-- those of version 2 with `reach`, whatever rows `ace` has
abbrev pub IsTabled : Database → Type 0
IsTabled db = HasTables book_schema db

-- they are those of a store where `ace` is empty
abbrev pub book_of : (db : Database) → IsTabled db → db.trees ace_tree ≡ [] → IsBook db
book_of db tabled former = record { schema = tabled.schema; rules = tabled.rules; rising = tabled.rising; former = former }
