-- What becomes of the tables of a store of version 2 in the former order, where `ace2` stands behind the indexes of version 1.
use Rattle.std.specs.Prelude.{◌≡◌, ◌≢◌, ℕ, List, [], codes, length, Option, Some, None, IsTrue}
use Rattle.std.specs.List.{AllByRecursion}
use Rattle.sqlite.specs.State.{State}
use Rattle.sqlite.specs.Tree.{Trees}
use Rattle.book_tables_rows.specs.Rows.{Rows, rows_of, IsBook}
use Rattle.book_tables_rows.specs.Schema.{first_schema, node_tree, ace_tree, ace2_tree, member_tree, gone_tree, meta_tree}
use Rattle.book_tables_schema.specs.Layout.{former_tree}
use Rattle.book_tables_schema.specs.OtherReach.{schema_of}
use Rattle.book_tables_schema.specs.Tabled.{HasTables, IsTabled}
use Rattle.book_tables_renewing.specs.Renewal.{first_rows_of}
use Rattle.book_tables_schema.specs.declared.layout.Generation.TheVariants.{Former}

-- the rows of the tables: the entries are those of their `ace2`, and there is no `reach`
abbrev pub former_rows_of : Trees → Rows
former_rows_of trees = record { nodes = trees node_tree; entries = trees former_tree; members = trees member_tree; gone = trees gone_tree; meta = trees meta_tree; reach = [] }

-- a connection in a transaction, where `ace` had no row, and the tables in the former order became those of a store, with the same
-- rows and so many entries; `reach` has no row
pub record Reordered (old new : State) (count : ℕ) : Type 0 where
  pub inside : IsTrue new.in_transaction
  pub was_open : IsTrue old.is_open
  pub is_open : IsTrue new.is_open
  pub made : HasTables (schema_of Former) old.now
      → (old.now.trees ace_tree ≡ []) × IsBook new.now × (rows_of new.now.trees ≡ former_rows_of old.now.trees)
  pub counted : HasTables (schema_of Former) old.now → count ≡ length (old.now.trees former_tree)

-- whether they did: if not, `ace` had a row
abbrev pub TellsReordered : State → State → Option ℕ → Type 0
TellsReordered old new None = HasTables (schema_of Former) old.now → old.now.trees ace_tree ≢ []
TellsReordered old new (Some count) = Reordered old new count

-- ---- the steps

abbrev pub move_text : List ℕ
move_text = codes "INSERT INTO ace (rowid, node, protected, place, form, principal, invert, deny, mask) SELECT rowid, node, protected, place, form, principal, invert, deny, mask FROM ace2 ORDER BY rowid"

-- inside a transaction: `ace`, which was empty, has the entries, and each other table has what it had
pub record Moves (old new : State) : Type 0 where
  pub inside : IsTrue new.in_transaction
  pub was_open : IsTrue old.is_open
  pub is_open : IsTrue new.is_open
  pub made : HasTables (schema_of Former) old.now → old.now.trees ace_tree ≡ []
      → HasTables (schema_of Former) new.now × (new.now.trees ace_tree ≡ old.now.trees former_tree)
      × AllByRecursion (λ t. t.tree ≢ ace_tree → new.now.trees t.tree ≡ old.now.trees t.tree) (schema_of Former).tables

abbrev pub back_text : List ℕ
back_text = codes "INSERT INTO ace2 (rowid, node, protected, place, form, principal, invert, deny, mask) SELECT rowid, node, protected, place, form, principal, invert, deny, mask FROM ace ORDER BY rowid"

-- inside a transaction: `ace2`, which was empty, has the rows of `ace`
pub record CopiesBack (old new : State) : Type 0 where
  pub inside : IsTrue new.in_transaction
  pub was_open : IsTrue old.is_open
  pub is_open : IsTrue new.is_open
  pub made : IsTabled old.now → old.now.trees ace2_tree ≡ []
      → IsTabled new.now × (rows_of new.now.trees ≡ record (rows_of old.now.trees) { entries = old.now.trees ace_tree })

-- inside a transaction: the tables of version 1, whose entries were those of version 2, became those of a store, with the same rows
pub record Restores (old new : State) : Type 0 where
  pub inside : IsTrue new.in_transaction
  pub was_open : IsTrue old.is_open
  pub is_open : IsTrue new.is_open
  pub made : HasTables first_schema old.now → IsBook new.now × (rows_of new.now.trees ≡ first_rows_of old.now.trees)
