-- The tables of a store that is opened, and what is left of one that could not be (own profile).
use Rattle.std.specs.Prelude.{◌≡◌, ◌≢◌, ℕ}
use Rattle.sqlite.specs.Held.{Held, state as state_of}
use Rattle.sqlite.specs.State.{State, HasCleanDisk}
use Rattle.sqlite_trees.specs.declared.store.Store.{Ghosts}
use Rattle.book_office.specs.Edits.{empty_office}
use Rattle.book_office.specs.Keeping.{Standing}
use Rattle.book_tables_schema.specs.Founding.{no_schema}
use Rattle.book_tables_schema.specs.Reopening.{IsUnharmed}
use Rattle.book_tables_schema.specs.declared.reopening.Unopened.{Unopened}
use Rattle.book_tables_schema.specs.declared.reopening.Unopened.TheVariants.{Connection, Store}
use Rattle.book_tables.specs.Keeps.{standing_of}
use Rattle.book_tables.specs.Opened.{IsUnfounded, StandsAlone}
use Rattle.book_tables.specs.declared.opening.OpenFault.{OpenFault}
use Rattle.book_tables.specs.declared.opening.OpenFault.TheVariants as faults
use Rattle.book_tables_opening.specs.Reading.{FaultSaysOf, IsRefused, IsUnopened, SameRows, StandForNone, StandsAsBefore}
use Rattle.book_desk_app.specs.declared.failures.StoreFailure.{StoreFailure}
use Rattle.book_desk_app.specs.declared.failures.StoreFailure.TheVariants as stores

-- the fault of an open as what is told of it
abbrev pub store_failure : OpenFault → StoreFailure
store_failure faults.OtherVersion = stores.OtherVersion
store_failure faults.NoStore = stores.NoStore
store_failure faults.Memory = stores.Memory
store_failure faults.Store = stores.Store

-- ---- the tables of a store

-- a store without tables stands for the empty Office then; another for the Office that its last commit stood for, with the same rows
-- but for `reach`
pub record IsOpenedFrom (before after : State) : Type 0 where
  pub made : before.now.schema ≡ no_schema → StandsAlone after empty_office
  pub opened : before.now.schema ≢ no_schema → StandsAsBefore before.committed.trees after
  pub same : before.now.schema ≢ no_schema → SameRows before.committed.trees after.now.trees

-- a store that could not be opened: without tables it shows what it showed, and a stop leaves that or the empty Office; else it
-- shows what was committed, and a stop leaves that or the Office that it stood for. Where it is refused, what was committed was read,
-- and stands for no Office
pub record IsGivenBack (before after : State) (fault : OpenFault) : Type 0 where
  pub bare : before.now.schema ≡ no_schema → IsUnfounded before after empty_office
  pub left : before.now.schema ≢ no_schema → IsUnopened before.committed.trees after
  pub none : IsRefused fault → StandForNone before.committed.trees
  pub other : IsRefused fault → FaultSaysOf 2 before.committed.trees fault

module _ {S : Type 0} (g : Ghosts S) where
  -- what comes back: the connection; or its store, unharmed, where one with tables could not be opened again
  abbrev pub LeavesStore : Held S → OpenFault → Unopened S → Type 0
  LeavesStore store fault (Connection left) = HasCleanDisk (state_of g left) → IsGivenBack (state_of g store) (state_of g left) fault
  LeavesStore store fault (Store left) = ((state_of g store).now.schema ≢ no_schema) × ¬ (IsRefused fault) × IsUnharmed g (state_of g store) left

  -- why the tables of a store were not had, and what came back
  abbrev pub FailsToOpen : Held S → StoreFailure → Unopened S → Type 0
  FailsToOpen store failure left = (fault : OpenFault) × (failure ≡ store_failure fault) × LeavesStore store fault left

  abbrev pub IsNotHad : Held S → StoreFailure → Type 0
  IsNotHad store failure = (left : Unopened S) × FailsToOpen store failure left

-- over connections with their state, and keepers with their connection and the number of their failures
module _ {C K : Type 0} (state : C → State) (connection : K → C) (failures : K → ℕ) where
  -- the keeper has the tables of the store, and none of its calls has failed
  abbrev pub AreTablesOf : C → K → Type 0
  AreTablesOf store tables = (failures tables ≡ 0) × (HasCleanDisk (state (connection tables)) → IsOpenedFrom (state store) (state (connection tables)))

  abbrev pub standing_in : K → Standing
  standing_in tables = standing_of (state (connection tables)) (failures tables)
