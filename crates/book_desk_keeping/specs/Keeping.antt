-- What the program does where it makes a store of a dump, or of another store, or compares two (own profile).
use Rattle.std.specs.Prelude.{◌≡◌, ◌≢◌, ◌↔◌, ◌⊎◌, ℕ, Bool, true, false, List, Option, Some, None, Result, IfOk, IsTrue}
use Rattle.std.specs.Io.KnownBytes.{Appends}
use Rattle.sqlite.specs.Held.{Held}
use Rattle.sqlite.specs.State.{State, HasCleanDisk}
use Rattle.book_desk_app.specs.Failures.{store_text}
use Rattle.book_desk_app.specs.Stores.{AreTablesOf, standing_in}
use Rattle.book_desk_app.specs.declared.failures.StoreFailure.{StoreFailure}
use Rattle.book_desk_keeping.specs.Changes.{changed_by_all}
use Rattle.book_desk_keeping.specs.Failures.{fault_status, keeping_text}
use Rattle.book_desk_keeping.specs.declared.changes.Change.{Change}
use Rattle.book_desk_keeping.specs.declared.failures.KeepingFault.{KeepingFault}
use Rattle.book_desk_keeping.specs.declared.failures.KeepingFault.TheVariants.{Line, LoadExists, LoadRefused, LoadUnknownPrincipal, LoadLastNumber, BackupExists, BackupDiffers, CopyExists, CopyRefused, CopyLastNumber, RestoreNotFound, RestoreNoParent, RestoreUnknownPrincipal, RestoreFull, RestoreLastNumber, Store, Output}
use Rattle.book_dumps.specs.Dumps.{dump_text}
use Rattle.book_dumps_changes.specs.Removals.{without_removed}
use Rattle.book_dumps_loading.specs.Loading.{IsCopy, Rests, StandsForText}
use Rattle.book_dumps_reading.specs.Dumped.{dumped_text}
use Rattle.book_dumps_reading.specs.declared.dumped.Dumped.{Dumped}
use Rattle.book_office.specs.Keeping.{Standing}
use Rattle.book_office.specs.declared.keepers.StoreFault.{StoreFault}
use Rattle.book_office_values.specs.declared.offices.Office.{Office}
use Rattle.book_tables_schema.specs.Founding.{no_schema}
use Rattle.book_tables_schema.specs.declared.reopening.Unopened.{Unopened}
use Rattle.book_tables_schema.specs.declared.reopening.Unopened.TheVariants.{Connection, Store as StoreAlone}

-- the connection, if it came back
abbrev pub connection_in : {S : Type 0} → Unopened S → Option (Held S)
connection_in (Connection c) = Some c
connection_in (StoreAlone s) = None

-- the faults of a text, and of changes of what it tells: it is no dump, a change can't be made, or memory was refused
abbrev pub IsOfInput : KeepingFault → Type 0
IsOfInput (Line fault) = Unit {0}
IsOfInput LoadExists = ⊥
IsOfInput LoadRefused = ⊥
IsOfInput LoadUnknownPrincipal = Unit {0}
IsOfInput LoadLastNumber = Unit {0}
IsOfInput BackupExists = ⊥
IsOfInput BackupDiffers = ⊥
IsOfInput CopyExists = ⊥
IsOfInput CopyRefused = ⊥
IsOfInput CopyLastNumber = ⊥
IsOfInput RestoreNotFound = ⊥
IsOfInput RestoreNoParent = ⊥
IsOfInput RestoreUnknownPrincipal = ⊥
IsOfInput RestoreFull = ⊥
IsOfInput RestoreLastNumber = ⊥
IsOfInput (Store failure) = Unit {0}
IsOfInput Output = ⊥

-- ---- a new store is made
module _ {C : Type 0} (state : C → State) where
  -- what is left of a new store that was not made: where the input was refused, or the store has a table, it comes back as it is
  abbrev pub LeavesNew : C → KeepingFault → Option C → Type 0
  LeavesNew fresh (Line fault) back = back ≡ Some fresh
  LeavesNew fresh LoadExists back = ((state fresh).now.schema ≢ no_schema) × (back ≡ Some fresh)
  LeavesNew fresh LoadRefused back = Unit {0}
  LeavesNew fresh LoadUnknownPrincipal back = back ≡ Some fresh
  LeavesNew fresh LoadLastNumber back = back ≡ Some fresh
  LeavesNew fresh BackupExists back = ⊥
  LeavesNew fresh BackupDiffers back = ⊥
  LeavesNew fresh CopyExists back = ((state fresh).now.schema ≢ no_schema) × (back ≡ Some fresh)
  LeavesNew fresh CopyRefused back = Unit {0}
  LeavesNew fresh CopyLastNumber back = back ≡ Some fresh
  LeavesNew fresh RestoreNotFound back = back ≡ Some fresh
  LeavesNew fresh RestoreNoParent back = back ≡ Some fresh
  LeavesNew fresh RestoreUnknownPrincipal back = back ≡ Some fresh
  LeavesNew fresh RestoreFull back = back ≡ Some fresh
  LeavesNew fresh RestoreLastNumber back = back ≡ Some fresh
  LeavesNew fresh (Store failure) back = Unit {0}
  LeavesNew fresh Output back = Unit {0}

  -- a store without tables became one that is such
  abbrev pub Makes : C → (C → Type 0) → Option C → Type 0
  Makes fresh IsSuch back = ((state fresh).now.schema ≡ no_schema) × (made : C) × (back ≡ Some made) × IsSuch made

  -- it was made, or it was not, which was told, with the status
  abbrev pub EndsMaking : (List ℕ → Type 0) → C → (C → Type 0) → ℕ → Option C → Type 0
  EndsMaking Told fresh IsSuch status back =
      ((status ≡ 0) × Makes fresh IsSuch back)
      ⊎ ((fault : KeepingFault) × (status ≡ fault_status fault) × LeavesNew fresh fault back × Told (keeping_text fault))

  -- what a text tells, as changes make it, is what a store was made of; what they tell was written
  pub record Loads (text : List ℕ) (changes : List Change) (fresh : C) (held holds : Option (List ℕ)) (back : Option C) : Type 0 where
    pub dumped : Dumped
    pub read : dumped_text dumped ≡ text
    pub makes : Makes fresh (λ made. HasCleanDisk (state made) → StandsForText (state made) (dumped_text (changed_by_all changes dumped).dumped)) back
    pub written : Appends held holds (changed_by_all changes dumped).told

  abbrev pub EndsLoad : (List ℕ → Type 0) → List ℕ → List Change → C → Option (List ℕ) → Option (List ℕ) → ℕ → Option C → Type 0
  EndsLoad Told text changes fresh held holds status back =
      ((status ≡ 0) × Loads text changes fresh held holds back)
      ⊎ ((fault : KeepingFault) × (status ≡ fault_status fault) × LeavesNew fresh fault back × Told (keeping_text fault))

-- ---- over a store, which stays
module _ {C K : Type 0} (state : C → State) (connection : K → C) (failures : K → ℕ) (Told : List ℕ → Type 0) (is_not_had : C → StoreFailure → Type 0) where
  -- the tables of the store were not had, which was told, and something else is untouched; or something was done over them, and their
  -- Office stays
  abbrev pub DoesOver : Type 0 → (Standing → Standing → ℕ → Type 0) → C → ℕ → Option C → Type 0
  DoesOver Untouched Does store status back =
      ((failure : StoreFailure) × is_not_had store failure × (status ≡ 3) × (back ≡ None) × Told (store_text failure) × Untouched)
      ⊎ ((old : K) × (new : K) × AreTablesOf state connection failures store old
      × Rests (standing_in state connection failures old) (standing_in state connection failures new)
      × Does (standing_in state connection failures old) (standing_in state connection failures new) status × (back ≡ Some (connection new)))

-- what was read of two keepers
module _ (first first_after other other_after : Standing) where
  -- so each two Offices for which they stand are related
  abbrev pub AreBoth : (Office → Office → Type 0) → Type 0
  AreBoth Related = first_after.honest → other_after.honest → (o p : Office) → first.stands o → other.stands p → Related o p

  -- whether they are the same
  abbrev pub ReadsBoth : Result Bool StoreFault → Type 0
  ReadsBoth result = IfOk result (λ same. AreBoth (λ o p. IsTrue same ↔ (o ≡ p)))

  -- they are the same, or differ, which was told; or a store failed, or memory was refused
  abbrev pub EndsComparison : (List ℕ → Type 0) → ℕ → Type 0
  EndsComparison Told status =
      ((status ≡ 0) × AreBoth (λ o p. o ≡ p))
      ⊎ ((status ≡ 1) × AreBoth (λ o p. o ≢ p) × Told (keeping_text BackupDiffers))
      ⊎ ((failure : StoreFailure) × (status ≡ 3) × Told (store_text failure))

module _ {C K : Type 0} (state : C → State) (connection : K → C) (failures : K → ℕ) (Told : List ℕ → Type 0) (is_not_had : C → StoreFailure → Type 0) where
  -- a store was compared with a keeper that was read
  abbrev pub ComparesOver : Standing → Standing → C → ℕ → Option C → Type 0
  ComparesOver first first_after other status back =
      DoesOver state connection failures Told is_not_had (Unit {0}) (λ old new status. EndsComparison first first_after old new Told status) other status back

-- ---- a copy

-- the faults of a source that is copied
abbrev pub IsOfSource : KeepingFault → Type 0
IsOfSource (Line fault) = ⊥
IsOfSource LoadExists = ⊥
IsOfSource LoadRefused = ⊥
IsOfSource LoadUnknownPrincipal = ⊥
IsOfSource LoadLastNumber = ⊥
IsOfSource BackupExists = ⊥
IsOfSource BackupDiffers = ⊥
IsOfSource CopyExists = ⊥
IsOfSource CopyRefused = Unit {0}
IsOfSource CopyLastNumber = Unit {0}
IsOfSource RestoreNotFound = ⊥
IsOfSource RestoreNoParent = ⊥
IsOfSource RestoreUnknownPrincipal = ⊥
IsOfSource RestoreFull = ⊥
IsOfSource RestoreLastNumber = ⊥
IsOfSource (Store failure) = Unit {0}
IsOfSource Output = ⊥

-- what the dump of an Office tells, without removed names
abbrev pub IsForgottenFrom : Standing → Dumped → Type 0
IsForgottenFrom source d = (o : Office) → source.stands o → (dumped : Dumped) × (dumped_text dumped ≡ dump_text o) × (d ≡ (without_removed dumped).dumped)

-- a connection stands for an Office without its removed names: for what its dump tells, so changed
pub record IsForgotten (s : State) (o : Office) : Type 0 where
  pub dumped : Dumped
  pub read : dumped_text dumped ≡ dump_text o
  pub stands : StandsForText s (dumped_text (without_removed dumped).dumped)

-- it stands for the Office of a keeper that was read, or for that Office without removed names, with the epoch above: what its dump
-- tells so changed
abbrev pub IsCopyOf : {C : Type 0} → (C → State) → Bool → Standing → Standing → C → Type 0
IsCopyOf state false old new made = new.honest → HasCleanDisk (state made) → IsCopy old (state made)
IsCopyOf state true old new made = new.honest → HasCleanDisk (state made) → (o : Office) → old.stands o → IsForgotten (state made) o
