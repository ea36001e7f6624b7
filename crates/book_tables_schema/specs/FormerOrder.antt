-- The table of entries of the former order is taken away.
use Rattle.std.specs.Prelude.{List, ℕ, codes, IsTrue}
use Rattle.sqlite.specs.State.{State}
use Rattle.sqlite_catalog.specs.Change.{KeepsRows}
use Rattle.book_tables_rows.specs.Schema.{first_schema}
use Rattle.book_tables_schema.specs.OtherReach.{schema_of}
use Rattle.book_tables_schema.specs.Tabled.{HasTables}
use Rattle.book_tables_schema.specs.declared.layout.Generation.TheVariants.{Former}

abbrev pub drop_former : List ℕ
drop_former = codes "DROP TABLE ace2"

-- inside a transaction: it is gone, and the rows of the other tables, which are those of version 1, are what they were
pub record DropsFormer (old new : State) : Type 0 where
  pub inside : IsTrue new.in_transaction
  pub was_open : IsTrue old.is_open
  pub is_open : IsTrue new.is_open
  pub made : HasTables (schema_of Former) old.now
      → HasTables first_schema new.now × KeepsRows first_schema.tables old.now.trees new.now.trees
