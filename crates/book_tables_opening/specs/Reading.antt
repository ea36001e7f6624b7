-- What reads of all tables show, and for what their rows stand.
use Rattle.std.specs.Prelude.{◌≡◌, ◌↔◌, ◌⊎◌, ℕ, Bool, true, false, List, [], Option, Some, None, Ok, Err, IsTrue}
use Rattle.sqlite.specs.Effect.{Database, IsDatabase, Reads}
use Rattle.sqlite.specs.Listing.{IsSourceOf, reads_listing, understood}
use Rattle.sqlite.specs.Order.{Row}
use Rattle.sqlite.specs.Schema.{Schema}
use Rattle.sqlite.specs.State.{State}
use Rattle.sqlite.specs.Tree.{Trees}
use Rattle.sqlite_catalog.specs.Change.{KeepsRows}
use Rattle.sqlite_resolve.specs.declared.compiled.Compiled.{Compiled}
use Rattle.sqlite_resolve.specs.declared.error.CompileError.{CompileError}
use Rattle.book_office_values.specs.declared.offices.Office.{Office}
use Rattle.book_office.specs.Keeping.{whole, broken}
use Rattle.book_tables_rows.specs.Lists.{ShowsRows, pairs_of}
use Rattle.book_tables_rows.specs.Rows.{IsBook, in_store, rows_of}
use Rattle.book_tables_rows.specs.Schema.{reach_tree}
use Rattle.book_tables_rows.specs.Steps.{Stays}
use Rattle.book_tables_schema.specs.Layout.{tables_of}
use Rattle.book_tables_schema.specs.declared.layout.Generation.TheVariants.{Second}
use Rattle.book_tables_schema.specs.OtherReach.{IsBeside}
use Rattle.book_tables_schema.specs.Tabled.{IsTabled}
use Rattle.book_tables_schema.specs.Versions.{is_other, read_version}
use Rattle.book_tables_schema.specs.Whole.{entries_shown, gone_shown, meta_shown}
use Rattle.book_tables.specs.Opened.{StandsAlone}
use Rattle.book_tables.specs.Stands.{IsKept, LeftBy, Stands}
use Rattle.book_tables.specs.declared.opening.OpenFault.{OpenFault}
use Rattle.book_tables.specs.declared.opening.OpenFault.TheVariants.{OtherVersion, NoStore, Memory, Store}
pub use Rattle.book_tables_opening.specs.Found.{IsReopened, RowsRise}
use Rattle.book_tables_opening.specs.WholeNodes.{ShowsTextlessNodes}
use Rattle.book_tables_opening.specs.declared.opening.Standing.{Standing}
use Rattle.book_tables_opening.specs.declared.opening.Standing.TheVariants.{Whole, Other, Broken}

-- an open connection shows the rows of entries and members, of removed names and of version, each in some order
pub record ShowsLists (s : State) (entries members : List Row) : Type 0 where
  pub entries_are : ShowsRows s entries_shown entries
  pub members_are : ShowsRows s pairs_of members

pub record ShowsRest (s : State) (gone meta : List Row) : Type 0 where
  pub gone_are : ShowsRows s gone_shown gone
  pub meta_are : ShowsRows s meta_shown meta

-- it shows the rows of all tables, without the texts of the nodes
pub record ShowsTables (s : State) (nodes entries members gone meta : List Row) : Type 0 where
  pub nodes_are : ShowsTextlessNodes s nodes
  pub lists : ShowsLists s entries members
  pub rest : ShowsRest s gone meta

-- the tables stand for an Office
abbrev pub StandsForOne : Database → Type 0
StandsForOne db = (o : Office) × Stands db o

-- whether the tables of a connection stand for an Office, where it has them
abbrev pub TellsStanding : State → Bool → Type 0
TellsStanding s is = IsTrue s.is_open × (IsBook s.now → IsTrue is ↔ StandsForOne s.now)

-- the rows of all tables but `reach` are the same
abbrev pub SameRows : Trees → Trees → Type 0
SameRows old new = rows_of new ≡ record (rows_of old) { reach = (rows_of new).reach }

-- tables stand for an Office, and are then kept as its tables: `reach` holds what chains of its direct members lead to
pub record Settled (old new : Database) : Type 0 where
  pub office : Office
  pub stood : Stands old office
  pub kept : IsKept new office
  pub same : SameRows old.trees new.trees

-- ---- in a transaction

-- `reach` was made anew, and the other tables are what they were
pub record MakesAnew (old new : State) : Type 0 where
  pub inside : IsTrue new.in_transaction
  pub was_open : IsTrue old.is_open
  pub is_open : IsTrue new.is_open
  pub made : IsBeside Second old.now.schema → RowsRise old.now
      → IsTabled new.now × KeepsRows (tables_of Second) old.now.trees new.now.trees × (new.now.trees reach_tree ≡ [])

-- `reach` was written
pub record WritesReach (old new : State) : Type 0 where
  pub inside : IsTrue new.in_transaction
  pub is_open : IsTrue new.is_open
  pub made : IsTabled old.now → Settled old.now new.now

-- `reach` held what it is to hold
pub record LeavesReach (old new : State) : Type 0 where
  pub inside : IsTrue new.in_transaction
  pub made : IsTabled old.now → (new.now ≡ old.now) × Settled old.now old.now

-- whether tables that have `reach` stand for an Office, and whether it was written
abbrev pub TellsOffice : State → State → Option Bool → Type 0
TellsOffice old new None = IsTabled old.now → ¬ (StandsForOne old.now)
TellsOffice old new (Some true) = WritesReach old new
TellsOffice old new (Some false) = LeavesReach old new

-- ---- a transaction

-- it was committed: what the tables stood for they are kept for
pub record Commits (old new : State) : Type 0 where
  pub is_open : IsTrue new.is_open
  pub committed : new.committed ≡ new.now
  pub made : RowsRise old.now → Settled old.now new.now

-- what a stop may leave of it
abbrev pub MaySettle : State → Trees → Type 0
MaySettle old trees = RowsRise old.now → Settled old.now (in_store trees)

-- whether the tables stand for an Office: they are then kept as its tables; if not, an open connection shows what it showed
abbrev pub TellsSettled : State → State → Bool → Type 0
TellsSettled old new true = Commits old new
TellsSettled old new false = Stays old new × (RowsRise old.now → ¬ (StandsForOne old.now))

abbrev pub IsStanding : State → State → Standing → Type 0
IsStanding old new Whole = TellsSettled old new true
IsStanding old new Other = TellsSettled old new false
IsStanding old new Broken = TellsSettled old new false

-- ---- the version that a store says

-- the rows that the query for the version shows of tables
pub record ShowsVersions (db : Database) (rows : List Row) : Type 0 where
  pub read : Compiled
  pub meant : understood db.schema read_version ≡ Ok read
  pub source : Database
  pub its : IsSourceOf (reads_listing db.schema read_version) db source
  pub shown : Reads read.command source [] rows

-- SQL does not understand the query under their schema
abbrev pub HidesVersions : Database → Type 0
HidesVersions db = (fault : CompileError) × (understood db.schema read_version ≡ Err fault)

-- whether it shows one row, whose version is not this one
abbrev pub TellsOther : ℕ → Database → Bool → Type 0
TellsOther version db other = ((rows : List Row) × ShowsVersions db rows × (other ≡ is_other version rows)) ⊎ (HidesVersions db × (other ≡ false))

-- what the query for the version says of tables with such a standing
abbrev pub StandingSays : Database → Standing → Type 0
StandingSays db Whole = Unit {0}
StandingSays db Other = TellsOther 2 db true
StandingSays db Broken = TellsOther 2 db false

-- ---- a store is opened

-- the trees that were committed stood for an Office; an open connection stands for that one, which a stop leaves alone
pub record StandsAsBefore (trees : Trees) (new : State) : Type 0 where
  pub office : Office
  pub stood : LeftBy trees (whole office)
  pub stands : StandsAlone new office
  pub is_open : IsTrue new.is_open

-- the tables are tested, and left as they are but for `reach`
pub record IsOpened (trees : Trees) (new : State) : Type 0 where
  pub stands : StandsAsBefore trees new
  pub same : SameRows trees new.now.trees

-- trees that stood for an Office were left with the same rows of all tables but `reach`, and are kept for that Office
pub record LeavesOffice (trees after : Trees) : Type 0 where
  pub office : Office
  pub stood : LeftBy trees (whole office)
  pub kept : IsKept (in_store after) office
  pub same : SameRows trees after

-- it shows the trees that were committed, and a stop leaves these, or the Office that they stood for
pub record IsUnopened (trees : Trees) (new : State) : Type 0 where
  pub shows : IsTrue new.is_open → new.now.trees ≡ trees
  pub left : (after : Trees) → new.may_leave after → (after ≡ trees) ⊎ LeavesOffice trees after

-- a store with these trees stands for no Office
abbrev pub StandForNone : Trees → Type 0
StandForNone trees = LeftBy trees broken

-- the tables were read, and stand for no Office
abbrev pub IsRefused : OpenFault → Type 0
IsRefused OtherVersion = Unit {0}
IsRefused NoStore = Unit {0}
IsRefused Memory = ⊥
IsRefused Store = ⊥

-- what the query for the version says of tables that are refused so where this one is wanted
abbrev pub FaultSays : ℕ → Database → OpenFault → Type 0
FaultSays version db OtherVersion = TellsOther version db true
FaultSays version db NoStore = TellsOther version db false
FaultSays version db Memory = Unit {0}
FaultSays version db Store = Unit {0}

-- the same of trees, with the schema that they list
pub record FaultSaysOf (version : ℕ) (trees : Trees) (fault : OpenFault) : Type 0 where
  pub schema : Schema
  pub listed : IsDatabase (record { schema = schema; trees = trees })
  pub says : FaultSays version (record { schema = schema; trees = trees }) fault
