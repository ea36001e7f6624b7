-- What `serve` does before it listens (own profile).
use Rattle.std.specs.Prelude.{◌≡◌, ◌⊎◌, ℕ, List, Option, Some, None, option_map}
use Rattle.sqlite.specs.Held.{Held, state as state_of}
use Rattle.sqlite.specs.State.{State}
use Rattle.sqlite_trees.specs.declared.store.Store.{Ghosts}
use Rattle.book_office_cache.specs.Remembering.{Remembers}
use Rattle.book_office_cache.specs.declared.cached.Cached.{Cached}
use Rattle.book_office_cache.specs.declared.remembered.Remembered.{Remembered}
use Rattle.book_office_values.specs.declared.offices.Office.{Office}
use Rattle.book_office.specs.Edits.{empty_office}
use Rattle.book_office.specs.Keeping.{in_memory}
use Rattle.book_policy_values.specs.declared.parts.PolicyTables.{PolicyTables}
use Rattle.book_tables_schema.specs.declared.reopening.Unopened.{Unopened}
use Rattle.book_tables_schema.specs.declared.reopening.Unopened.TheVariants.{Connection}
use Rattle.book_tables.specs.declared.tables.Tables.{Tables}
use Rattle.book_desk_app.specs.Imports.{AdoptsGiven, FailsToAdopt}
use Rattle.book_desk_app.specs.Stores.{AreTablesOf, FailsToOpen, standing_in}
use Rattle.book_desk_serving.specs.Works.{IsGiven, IsNotGiven}
use Rattle.book_desk_app.specs.declared.failures.Failure.{Failure}
use Rattle.book_desk_app.specs.declared.failures.Failure.TheVariants as failures
use Rattle.book_desk_app.specs.declared.failures.StoreFailure.{StoreFailure}
use Rattle.book_desk_serving.specs.declared.preparing.Prepared.{Prepared}
use Rattle.book_desk_serving.specs.declared.preparing.Prepared.TheVariants.{Memory, Store}

-- the policy was adopted over the empty Office in memory
abbrev pub IsReadyInMemory : Option PolicyTables → Office → Type 0
IsReadyInMemory policy new = AdoptsGiven (in_memory empty_office) policy (in_memory new)

-- it was not
abbrev pub FailsInMemory : Option PolicyTables → Failure → Type 0
FailsInMemory policy failure = (new : Office) × FailsToAdopt (in_memory empty_office) policy failure (in_memory new)

-- over connections with their state, and keepers with their connection and the number of their failures
module _ {C K : Type 0} (state : C → State) (connection : K → C) (failures_of : K → ℕ) where
  -- the policy was adopted over the tables of the store, of which nothing is remembered
  abbrev pub IsReadyOver : C → Option PolicyTables → Cached K Remembered → Type 0
  IsReadyOver store policy new =
      ((old : K) × AreTablesOf state connection failures_of store old
      × AdoptsGiven (standing_in state connection failures_of old) policy (standing_in state connection failures_of new.keeper))
      × ((o : Office) → Remembers new.remembered o)

-- the same of connections to a store
module _ {S K : Type 0} (g : Ghosts S) (connection : K → Held S) (failures_of : K → ℕ) where
  -- the tables were not had; or the policy was not adopted over them, and the connection comes back
  abbrev pub FailsOverStore : Held S → Option PolicyTables → Failure → Unopened S → Type 0
  FailsOverStore store policy failure back =
      ((fault : StoreFailure) × (failure ≡ failures.Store fault) × FailsToOpen g store fault back)
      ⊎ ((old : K) × (new : K) × AreTablesOf (state_of g) connection failures_of store old
      × FailsToAdopt (standing_in (state_of g) connection failures_of old) policy failure (standing_in (state_of g) connection failures_of new)
      × (back ≡ Connection (connection new)))

  abbrev pub FailsOver : Option (Held S) → Option PolicyTables → Failure → Option (Unopened S) → Type 0
  FailsOver None policy failure back = FailsInMemory policy failure × (back ≡ None)
  FailsOver (Some store) policy failure back = (left : Unopened S) × (back ≡ Some left) × FailsOverStore store policy failure left

  -- the file spells no policy, and nothing was done; or it does, and what follows failed
  abbrev pub FailsToPrepare : {F : Type 0} → (F → List ℕ) → Option (Held S) → Option F → Failure → Option (Unopened S) → Type 0
  FailsToPrepare bytes store file failure back =
      (IsNotGiven bytes file failure × (back ≡ option_map Connection store))
      ⊎ ((policy : Option PolicyTables) × IsGiven bytes file policy × FailsOver store policy failure back)

-- a machine over the store, if there is one, else over an Office in memory
module _ {S C : Type 0} (state : C → State) (connection : Tables S → C) (failures_of : Tables S → ℕ) where
  abbrev pub IsPrepared : Option C → Option PolicyTables → Prepared S → Type 0
  IsPrepared None policy (Memory machine) = IsReadyInMemory policy machine.keeper
  IsPrepared None policy (Store machine) = ⊥
  IsPrepared (Some store) policy (Memory machine) = ⊥
  IsPrepared (Some store) policy (Store machine) = IsReadyOver state connection failures_of store policy machine.keeper

  abbrev pub Prepares : {F : Type 0} → (F → List ℕ) → Option C → Option F → Prepared S → Type 0
  Prepares bytes store file prepared = (policy : Option PolicyTables) × IsGiven bytes file policy × IsPrepared store policy prepared

abbrev pub store_of : {S C : Type 0} → (Tables S → C) → Prepared S → Option C
store_of connection (Memory machine) = None
store_of connection (Store machine) = Some (connection machine.keeper.keeper)
