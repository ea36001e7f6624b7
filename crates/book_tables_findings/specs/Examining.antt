-- What is told of the tables of a store, as its last commit left them.
use Rattle.std.specs.Prelude.{◌≡◌, [], Option, Some, None, IsTrue}
use Rattle.sqlite.specs.Effect.{Database, IsDatabase}
use Rattle.sqlite.specs.Schema.{Schema}
use Rattle.sqlite.specs.State.{State, HasCleanDisk, Opens}
use Rattle.sqlite.specs.Tree.{Trees}
use Rattle.book_tables_rows.specs.Rows.{rows_of}
use Rattle.book_tables_rows.specs.Schema.{ace_tree}
use Rattle.book_tables_schema.specs.OtherReach.{IsBeside}
use Rattle.book_tables_schema.specs.declared.layout.Generation.TheVariants.{Second}
use Rattle.book_tables_opening.specs.Reading.{RowsRise, StandsForOne}
use Rattle.book_tables_findings.specs.Findings.{BreaksIn}
use Rattle.book_tables_findings.specs.declared.faults.Fault.{Fault}
use Rattle.book_tables_findings.specs.declared.faults.Fault.TheVariants.{Schema as OtherSchema, Former, Found}

-- a schema that is none of a store, rows of version 1, or what is found in the rows
abbrev pub BreaksStore : Database → Fault → Type 0
BreaksStore db OtherSchema = ¬ (IsBeside Second db.schema)
BreaksStore db Former = ¬ (db.trees ace_tree ≡ [])
BreaksStore db (Found f) = BreaksIn (rows_of db.trees) f

-- nothing is found exactly where the tables stand for an Office
abbrev pub TellsFault : Database → Option Fault → Type 0
TellsFault db None = StandsForOne db
TellsFault db (Some fault) = BreaksStore db fault × ¬ (StandsForOne db)

-- the same of trees, with the schema that they list
pub record TellsFaultOf (trees : Trees) (found : Option Fault) : Type 0 where
  pub schema : Schema
  pub listed : IsDatabase (record { schema = schema; trees = trees })
  pub told : TellsFault (record { schema = schema; trees = trees }) found

-- a connection that was open was opened again, as its last commit left it
pub record IsOpenedAgain (old new : State) : Type 0 where
  pub was_clean : HasCleanDisk old
  pub was_open : IsTrue old.is_open
  pub opens : Opens new
  pub trees : new.now.trees ≡ old.committed.trees
  pub rise : RowsRise new.now

-- what an open connection shows was examined
pub record Examines (s : State) (found : Option Fault) : Type 0 where
  pub was_clean : HasCleanDisk s
  pub was_open : IsTrue s.is_open
  pub told : TellsFaultOf s.now.trees found
