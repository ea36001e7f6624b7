-- What the program does where it tells whether a store is sound (own profile).
use Rattle.std.specs.Prelude.{◌≡◌, ◌⊎◌, ℕ, List, ◌++◌, codes, Option, Some, None}
use Rattle.std.specs.Io.KnownBytes.{Appends, Keeps}
use Rattle.sqlite.specs.Held.{Held}
use Rattle.sqlite.specs.State.{State, HasCleanDisk}
use Rattle.sqlite.specs.declared.error.Error.{Error}
use Rattle.sqlite.specs.declared.error.Error.TheVariants.{SqliteFailure}
use Rattle.sqlite.specs.declared.error.ErrorCode.TheVariants.{OutOfMemory}
use Rattle.book_office_values.specs.declared.offices.Office.{Office}
use Rattle.book_office.specs.Keeping.{Standing}
use Rattle.book_tables.specs.declared.opening.OpenFault.{OpenFault}
use Rattle.book_tables.specs.declared.opening.OpenFault.TheVariants as faults
use Rattle.book_tables_schema.specs.declared.reopening.Unopened.{Unopened}
use Rattle.book_tables_schema.specs.declared.reopening.Unopened.TheVariants.{Connection, Store as StoreAlone}
use Rattle.book_tables_opening.specs.Reading.{StandForNone, StandsAsBefore}
use Rattle.book_tables_findings.specs.Examining.{Examines, TellsFaultOf}
use Rattle.book_tables_findings.specs.Lines.{fault_text}
use Rattle.book_tables_findings.specs.declared.faults.Fault.{Fault}
use Rattle.book_dumps.specs.Dumps.{dump_text}
use Rattle.book_dumps_loading.specs.Loading.{Rests}
use Rattle.book_dumps_loading.specs.declared.faults.LoadFault.{LoadFault}
use Rattle.book_dumps_loading.specs.declared.faults.LoadFault.TheVariants as loads
use Rattle.book_dumps_reading.specs.Dumped.{dumped_text}
use Rattle.book_dumps_reading.specs.declared.dumped.Dumped.{Dumped}
use Rattle.book_desk_app.specs.Failures.{failure_text, store_text}
use Rattle.book_desk_app.specs.Stores.{standing_in}
use Rattle.book_desk_app.specs.declared.failures.Failure.{Failure}
use Rattle.book_desk_app.specs.declared.failures.StoreFailure.{StoreFailure}
use Rattle.book_desk_app.specs.declared.failures.StoreFailure.TheVariants as stores
use Rattle.book_dumps_counts.specs.Counts.{counts_text}

-- ---- faults as what is told of them

abbrev pub load_failure : LoadFault → StoreFailure
load_failure loads.Exists = stores.Store
load_failure loads.Refused = stores.Store
load_failure loads.Unequal = stores.Store
load_failure loads.Memory = stores.Memory
load_failure loads.Store = stores.Store

abbrev pub refusal : OpenFault → StoreFailure
refusal faults.OtherVersion = stores.OtherVersion
refusal faults.NoStore = stores.NoStore
refusal faults.Memory = stores.Memory
refusal faults.Store = stores.Store

abbrev pub error_failure : Error → StoreFailure
error_failure (SqliteFailure OutOfMemory) = stores.Memory
error_failure _ = stores.Store

-- that a store is of another version, or is none, says that it stands for no Office
abbrev pub SaysNone : StoreFailure → Type 0
SaysNone stores.OtherVersion = Unit {0}
SaysNone stores.NoStore = Unit {0}
SaysNone stores.Memory = ⊥
SaysNone stores.Store = ⊥

-- the connection, if it came back
abbrev pub connection_in : {S : Type 0} → Unopened S → Option (Held S)
connection_in (Connection c) = Some c
connection_in (StoreAlone s) = None

-- ---- a sound store

-- what is counted of a keeper's Office, as its dump tells it, was written
pub record WritesCounts (old new : Standing) (held holds : Option (List ℕ)) : Type 0 where
  pub dumped : Dumped
  pub its : new.honest → (o : Office) → old.stands o → dumped_text dumped ≡ dump_text o
  pub written : Appends held holds (counts_text dumped)

-- it was written, or not, which was told
abbrev pub EndsCounts : (List ℕ → Type 0) → Standing → Standing → Option (List ℕ) → Option (List ℕ) → ℕ → Type 0
EndsCounts Told old new held holds status =
    ((status ≡ 0) × WritesCounts old new held holds)
    ⊎ ((failure : Failure) × (status ≡ 3) × Told (failure_text failure))

-- what was found is told, or that nothing was, or want of memory
abbrev pub TellsFound : (List ℕ → Type 0) → Option Fault → Type 0
TellsFound Told found =
    ((fault : Fault) × (found ≡ Some fault) × Told (codes "store: " ++ fault_text fault))
    ⊎ ((found ≡ None) × Told (store_text stores.NoStore))
    ⊎ Told (store_text stores.Memory)

-- ---- a store
module _ {C : Type 0} (state : C → State) (Told : List ℕ → Type 0) where
  -- what is at fault was found in what a connection shows, and was told, with the connection that read it
  pub record FindsIn (left : C) (back : Option C) : Type 0 where
    pub fault : Fault
    pub told : Told (codes "store: " ++ fault_text fault)
    pub reader : C
    pub came : back ≡ Some reader
    pub found : HasCleanDisk (state reader) → Examines (state left) (Some fault)

  -- it was, or a failure was told; where that says that a store is none, the connection that read it came back
  abbrev pub EndsFinding : C → Option C → Type 0
  EndsFinding left back =
      FindsIn left back
      ⊎ ((failure : StoreFailure) × Told (store_text failure)
      × (SaysNone failure → (reader : C) × (back ≡ Some reader) × (HasCleanDisk (state reader) → HasCleanDisk (state left))))

  -- what is at fault was found in what the store's last commit left, which stands for no Office, and was told
  pub record TellsOfStore (store : C) (back : Option C) : Type 0 where
    pub fault : Fault
    pub told : Told (codes "store: " ++ fault_text fault)
    pub reader : C
    pub came : back ≡ Some reader
    pub found : HasCleanDisk (state reader) → StandForNone (state store).committed.trees × TellsFaultOf (state store).committed.trees (Some fault)

  -- a failure was told; where that says that a store is none, what its last commit left stands for no Office
  pub record TellsFailureOf (store : C) (back : Option C) : Type 0 where
    pub failure : StoreFailure
    pub told : Told (store_text failure)
    pub none : SaysNone failure → (reader : C) × (back ≡ Some reader) × (HasCleanDisk (state reader) → StandForNone (state store).committed.trees)

module _ {C K : Type 0} (state : C → State) (connection : K → C) (failures : K → ℕ) (Told : List ℕ → Type 0) where
  -- a keeper has the tables of a store whose last commit stands for a sound Office, and stands for that one
  pub record HasTablesOf (store : C) (tables : K) : Type 0 where
    pub counted : failures tables ≡ 0
    pub stands : HasCleanDisk (state (connection tables)) → StandsAsBefore (state store).committed.trees (state (connection tables))

  -- the store was sound, and what is counted of it was written, or not; what is at fault was told; or a failure was told
  abbrev pub Doctors : C → Option (List ℕ) → Option (List ℕ) → ℕ → Option C → Type 0
  Doctors store held holds status back =
      ((old new : K) × HasTablesOf store old × Rests (standing_in state connection failures old) (standing_in state connection failures new)
      × EndsCounts Told (standing_in state connection failures old) (standing_in state connection failures new) held holds status × (back ≡ Some (connection new)))
      ⊎ ((status ≡ 3) × Keeps held holds × TellsOfStore state Told store back)
      ⊎ ((status ≡ 3) × Keeps held holds × TellsFailureOf state Told store back)

-- a connection that came back where a store was refused is looked at, or why it was refused was told
abbrev pub EndsRefusal : {S : Type 0} → (Held S → State) → (List ℕ → Type 0) → OpenFault → Unopened S → Option (Held S) → Type 0
EndsRefusal {S} state Told fault left back =
    ((c : Held S) × (fault ≡ faults.NoStore) × (left ≡ Connection c) × EndsFinding state Told c back)
    ⊎ (Told (store_text (refusal fault)) × (back ≡ connection_in left))
