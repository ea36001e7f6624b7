-- A store without tables, and what it becomes where one is founded.
use Rattle.std.specs.Prelude.{◌≡◌, ℕ, ℤ, pos, List, [], ◌∷◌, codes, None, IsTrue, OnOk, Ok, Result}
use Rattle.std.specs.List.{AllByRecursion}
use Rattle.sqlite.specs.declared.error.Error.{Error}
use Rattle.sqlite.specs.declared.types.Value.{Value}
use Rattle.sqlite.specs.declared.types.Value.TheVariants.{Null, Int}
use Rattle.sqlite.specs.Effect.{Database, IsDatabase}
use Rattle.sqlite.specs.Order.{Row}
use Rattle.sqlite.specs.Schema.{Schema}
use Rattle.sqlite.specs.State.{State, HasCleanDisk, ExecutesInside}
use Rattle.sqlite.specs.Tree.{Trees}
use Rattle.sqlite_catalog.specs.Change.{created, indexed, KeepsRows}
use Rattle.book_tables_rows.specs.Rows.{Rows, rows_of, IsBook, in_store}
use Rattle.book_tables_rows.specs.Schema.{node_table, ace_table, member_table, gone_table, meta_table, ace2_table, ace2_tree, plain_index, first_schema, base_schema, reach_table, reach_tree}
use Rattle.book_tables_schema.specs.Tabled.{HasTables, IsTabled}
use Rattle.book_tables_rows.specs.Writes.{node_row, insert_node, insert_meta}

-- ---- the schemas that the texts make, in their order

abbrev pub no_schema : Schema
no_schema = record { tables = []; indexes = []; views = [] }

abbrev pub with_node : Schema
with_node = created no_schema node_table

abbrev pub with_ace : Schema
with_ace = created with_node ace_table

abbrev pub with_member : Schema
with_member = created with_ace member_table

abbrev pub with_gone : Schema
with_gone = created with_member gone_table

abbrev pub with_meta : Schema
with_meta = created with_gone meta_table

abbrev pub with_ace2 : Schema
with_ace2 = created with_meta ace2_table

abbrev pub with_reach : Schema
with_reach = created with_ace2 reach_table

-- all tables stand before the indexes that only make look-ups fast

abbrev pub with_parent : Schema
with_parent = indexed with_reach node_table (plain_index (codes "node_parent") 0 0 (3 ∷ 8 ∷ []))

abbrev pub with_owner : Schema
with_owner = indexed with_parent node_table (plain_index (codes "node_owner") 0 0 (5 ∷ []))

abbrev pub with_principal : Schema
with_principal = indexed with_owner ace_table (plain_index (codes "ace_principal") 0 0 (5 ∷ []))

abbrev pub with_members : Schema
with_members = indexed with_principal member_table (plain_index (codes "member_member") 0 0 (2 ∷ []))

abbrev pub with_entries : Schema
with_entries = indexed with_members ace2_table (plain_index (codes "ace2_principal") 0 0 (5 ∷ []))

abbrev pub with_removed : Schema
with_removed = indexed with_entries gone_table (plain_index (codes "gone_book") 0 0 (1 ∷ 3 ∷ []))

abbrev pub with_all : Schema
with_all = indexed with_removed reach_table (plain_index (codes "reach_grp") 0 0 (1 ∷ []))

-- a store has these tables, and no row in them
pub record IsBare (schema : Schema) (db : Database) : Type 0 where
  pub schema_is : db.schema ≡ schema
  pub empty : AllByRecursion (λ t. db.trees t.tree ≡ []) schema.tables

-- inside a transaction: tables were added, which have no rows
pub record Extends (old new : State) (before after : Schema) : Type 0 where
  pub inside : IsTrue new.in_transaction
  pub was_open : IsTrue old.is_open
  pub is_open : IsTrue new.is_open
  pub bare : IsBare before old.now → IsBare after new.now × IsDatabase new.now

-- inside a transaction: indexes were added, and all rows stayed
pub record Indexes (old new : State) (before after : Schema) : Type 0 where
  pub inside : IsTrue new.in_transaction
  pub was_open : IsTrue old.is_open
  pub is_open : IsTrue new.is_open
  pub made : old.now.schema ≡ before
      → (new.now.schema ≡ after) × IsDatabase new.now × KeepsRows before.tables old.now.trees new.now.trees

-- a text without parameters has run inside a transaction
abbrev pub Ran : List ℕ → State → State → Type 0
Ran sql old new = (count : ℕ) × ExecutesInside 0 sql [] old new (Ok count)

-- a step that answers Ok has added them
abbrev pub Extending : State → State → Result (Unit {0}) Error → Schema → Schema → Type 0
Extending old new result before after = HasCleanDisk new → IsTrue old.in_transaction → OnOk result (Extends old new before after)

abbrev pub Indexing : State → State → Result (Unit {0}) Error → Schema → Schema → Type 0
Indexing old new result before after = HasCleanDisk new → IsTrue old.in_transaction → OnOk result (Indexes old new before after)

-- ---- the first rows

abbrev pub no_rows : Rows
no_rows = record { nodes = []; entries = []; members = []; gone = []; meta = []; reach = [] }

-- the root, which has no parent
abbrev pub insert_root : Rows → Rows
insert_root rows = insert_node (codes "/") Null 0 None [] None 0 rows

-- a home under the root
abbrev pub insert_home : List ℕ → Rows → Rows
insert_home path rows = insert_node path (Int (pos 1)) 1 None [] None 0 rows

abbrev pub insert_homes : Rows → Rows
insert_homes rows = insert_home (codes "/books") (insert_home (codes "/groups") (insert_home (codes "/people") rows))

-- what is written into the tables without rows
abbrev pub insert_first : Rows → Rows
insert_first rows = insert_homes (insert_root (insert_meta 2 0 rows))

-- a node without owner, label and text, which nobody has changed
abbrev pub bare_node : ℤ → List ℕ → Value → ℕ → Row
bare_node id path parent kind = node_row id path parent kind None [] None 0

-- the rows of a new store: the root and the three homes, no entry, no member, no removed name and nothing reached, version 2 and
-- epoch 0
abbrev pub first_rows : Rows
first_rows = record {
  nodes = bare_node (pos 1) (codes "/") Null 0 ∷ bare_node (pos 2) (codes "/people") (Int (pos 1)) 1 ∷ bare_node (pos 3) (codes "/groups") (Int (pos 1)) 1 ∷ bare_node (pos 4) (codes "/books") (Int (pos 1)) 1 ∷ [];
  entries = [];
  members = [];
  gone = [];
  meta = (Int (pos 1) ∷ Int (pos 2) ∷ Int (pos 0) ∷ []) ∷ [];
  reach = [];
}

-- ---- a store is founded

-- inside a transaction: a store without tables has the first rows
pub record Founds (old new : State) : Type 0 where
  pub inside : IsTrue new.in_transaction
  pub was_open : IsTrue old.is_open
  pub is_open : IsTrue new.is_open
  pub made : IsBare no_schema old.now → IsBook new.now × (rows_of new.now.trees ≡ first_rows)

-- a connection before and after: it had no tables, and the first rows are committed
pub record IsFounded (old new : State) : Type 0 where
  pub was_open : IsTrue old.is_open
  pub is_open : IsTrue new.is_open
  pub was_empty : old.now.schema ≡ no_schema
  pub committed : new.committed ≡ new.now
  pub book : IsBook new.now
  pub rows : rows_of new.now.trees ≡ first_rows

-- what a stop may leave of it
pub record MayFound (old : State) (trees : Trees) : Type 0 where
  pub was_open : IsTrue old.is_open
  pub was_empty : old.now.schema ≡ no_schema
  pub book : IsBook (in_store trees)
  pub rows : rows_of trees ≡ first_rows

-- ---- the tables of version 1 are renewed

-- inside a transaction: to the tables of version 1 came the one that version 2 has beside them, without a row; all rows stayed
pub record Renews (old new : State) : Type 0 where
  pub inside : IsTrue new.in_transaction
  pub was_open : IsTrue old.is_open
  pub is_open : IsTrue new.is_open
  pub made : old.now.schema ≡ first_schema
      → (new.now.schema ≡ base_schema) × IsDatabase new.now × KeepsRows first_schema.tables old.now.trees new.now.trees × (new.now.trees ace2_tree ≡ [])

-- ---- what derives from other tables is made

-- inside a transaction: to the tables of a store `reach` came, without a row, and the indexes that only make look-ups fast; all rows
-- stayed
pub record GetsDerived (old new : State) : Type 0 where
  pub inside : IsTrue new.in_transaction
  pub was_open : IsTrue old.is_open
  pub is_open : IsTrue new.is_open
  pub made : HasTables base_schema old.now → IsTabled new.now × KeepsRows base_schema.tables old.now.trees new.now.trees × (new.now.trees reach_tree ≡ [])
