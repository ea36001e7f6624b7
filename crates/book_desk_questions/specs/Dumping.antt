-- What the program does where it writes the dump of a store (own profile).
use Rattle.std.specs.Prelude.{◌≡◌, ◌⊎◌, ℕ, List, Option, Some, None, Ok, Err}
use Rattle.std.specs.Io.KnownBytes.{Keeps}
use Rattle.sqlite.specs.State.{State}
use Rattle.book_office.specs.Keeping.{Standing}
use Rattle.book_dumps.specs.Writing.{Dumps}
use Rattle.book_dumps.specs.declared.faults.DumpFault.{DumpFault}
use Rattle.book_dumps.specs.declared.faults.DumpFault.TheVariants as faults
use Rattle.book_desk_app.specs.Failures.{failure_status, failure_text, store_failure, store_text}
use Rattle.book_desk_app.specs.Stores.{AreTablesOf, standing_in}
use Rattle.book_desk_app.specs.declared.failures.Failure.{Failure}
use Rattle.book_desk_app.specs.declared.failures.Failure.TheVariants.{Output, Store}
use Rattle.book_desk_app.specs.declared.failures.StoreFailure.{StoreFailure}

abbrev pub failure_of : DumpFault → Failure
failure_of (faults.Store fault) = Store (store_failure fault)
failure_of faults.Write = Output

-- it was written; or it was not, with the status of what was told. With how a line is told, and the status
abbrev pub EndsDump : (List ℕ → Type 0) → Standing → Option (List ℕ) → Option (List ℕ) → ℕ → Standing → Type 0
EndsDump Told old held holds status new =
    ((status ≡ 0) × Dumps old new held holds (Ok tt))
    ⊎ ((fault : DumpFault) × (status ≡ failure_status (failure_of fault)) × Dumps old new held holds (Err fault) × Told (failure_text (failure_of fault)))

-- ---- a run over a store
module _ {C K : Type 0} (state : C → State) (connection : K → C) (failures : K → ℕ) (Told : List ℕ → Type 0) where
  -- the dump was written over the tables, or not, and the Office stays
  abbrev pub DumpsOver : K → Option (List ℕ) → Option (List ℕ) → ℕ → K → Type 0
  DumpsOver old held holds status new =
      EndsDump Told (standing_in state connection failures old) held holds status (standing_in state connection failures new)

  -- the tables of the store were not had; or it was written over them
  abbrev pub DumpsIn : (C → StoreFailure → Type 0) → C → Option (List ℕ) → Option (List ℕ) → ℕ → Option C → Type 0
  DumpsIn is_not_had store held holds status back =
      ((failure : StoreFailure) × is_not_had store failure × (status ≡ 3) × (back ≡ None) × Keeps held holds × Told (store_text failure))
      ⊎ ((old : K) × (new : K) × AreTablesOf state connection failures store old × DumpsOver old held holds status new × (back ≡ Some (connection new)))
