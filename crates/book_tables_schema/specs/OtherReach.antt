-- A table `reach` of any columns behind the tables of a store, and what takes it away.
use Rattle.std.specs.Prelude.{◌≡◌, ◌⊎◌, ◌≤◌, ℕ, true, false, List, [], ◌∷◌, ◌++◌, codes, IsTrue}
use Rattle.std.specs.List.{AllByRecursion}
use Rattle.sqlite.specs.Effect.{Database, IsDatabase}
use Rattle.sqlite.specs.Schema.{Schema}
use Rattle.sqlite.specs.State.{State}
use Rattle.sqlite.specs.Table.{Table}
use Rattle.sqlite_catalog.specs.Change.{KeepsRows}
use Rattle.sqlite_schema.specs.Names.{same_name}
use Rattle.sqlite_schema.specs.declared.schema.Index.{Index}
use Rattle.sqlite_schema.specs.declared.schema.Reference.{Reference}
use Rattle.sqlite_rules.specs.Lists.{Has}
use Rattle.sqlite_trees.specs.View.{IsShaped}
use Rattle.sqlite_trees.specs.declared.store.Shape.TheVariants.{Table as TableShape}
use Rattle.book_tables_rows.specs.Schema.{ace_tree}
use Rattle.book_tables_schema.specs.declared.layout.Generation.{Generation}
use Rattle.book_tables_schema.specs.declared.layout.Generation.TheVariants.{First, Former, Second}
use Rattle.book_tables_schema.specs.Layout.{keys_of, tables_of}
use Rattle.book_tables_schema.specs.OwnIndexes.{bared}
use Rattle.book_tables_schema.specs.Tabled.{HasTables}

-- the tables of a generation with their keys, without the indexes that only make look-ups fast and without `reach`
abbrev pub schema_of : Generation → Schema
schema_of generation = record { tables = tables_of generation; indexes = keys_of generation; views = [] }

-- the first tree behind theirs
abbrev pub free_tree : Generation → ℕ
free_tree First = 9
free_tree Former = 15
free_tree Second = 11

abbrev pub IsToOther : Reference → Type 0
IsToOther reference = same_name (codes "reach") reference.parent ≡ false

-- a table `reach`, however the case of its letters: no reference of its own is to it, and no other table counts for it
pub record IsReach (generation : Generation) (last : Table) : Type 0 where
  pub named : same_name last.name (codes "reach") ≡ true
  pub behind : free_tree generation ≤ last.tree
  pub uncounted : last.is_counted ≡ false
  pub apart : AllByRecursion IsToOther last.references

-- the keys of a generation, and other indexes of the table in this tree
pub record HasIndexes (generation : Generation) (tree : ℕ) (indexes : List Index) : Type 0 where
  pub more : List Index
  pub are : indexes ≡ keys_of generation ++ more
  pub its : AllByRecursion (λ i. i.table ≡ tree) more

-- the tables stand there with a table `reach` and its indexes behind them
pub record HasLast (generation : Generation) (tables : List Table) (indexes : List Index) : Type 0 where
  pub last : Table
  pub are : tables ≡ tables_of generation ++ last ∷ []
  pub its : IsReach generation last
  pub others : HasIndexes generation last.tree indexes

pub record HasReach (generation : Generation) (schema : Schema) : Type 0 where
  pub there : HasLast generation schema.tables schema.indexes
  pub views : schema.views ≡ []

-- they stand there, with such a table behind them or without one
abbrev pub IsBareBeside : Generation → Schema → Type 0
IsBareBeside generation schema = (schema ≡ schema_of generation) ⊎ HasReach generation schema

-- the same, whichever of the indexes that only make look-ups fast are there, in whatever order
abbrev pub IsBeside : Generation → Schema → Type 0
IsBeside generation schema = IsBareBeside generation (bared schema)

-- the tables of version 2 are there with their columns and rules, their rows rise by their numbers, and `ace` is empty: with a table
-- `reach`, of whatever columns and rows, or without one, and with whichever of the indexes that only make look-ups fast
pub record HasBase (db : Database) : Type 0 where
  pub schema : IsBeside Second db.schema
  pub rules : IsDatabase db
  pub rising : (t : Table) → Has (tables_of Second) t → IsShaped TableShape (db.trees t.tree)
  pub former : db.trees ace_tree ≡ []

-- ---- what derives from other tables is taken away

abbrev pub drop_reach : List ℕ
drop_reach = codes "DROP TABLE IF EXISTS reach"

-- inside a transaction: `reach` and the indexes that only make look-ups fast are gone, and the rows of the other tables are what they were
pub record DropsDerived (old new : State) : Type 0 where
  pub inside : IsTrue new.in_transaction
  pub was_open : IsTrue old.is_open
  pub is_open : IsTrue new.is_open
  pub made : (generation : Generation) → IsBeside generation old.now.schema → HasTables old.now.schema old.now
      → HasTables (schema_of generation) new.now × KeepsRows (tables_of generation) old.now.trees new.now.trees
