-- What the program does where it makes a store of another one with resources of a backup (own profile).
use Rattle.std.specs.Prelude.{◌≡◌, ◌⊎◌, ℕ, List, Option}
use Rattle.std.specs.Io.KnownBytes.{Appends}
use Rattle.std.specs.List.{AllZip}
use Rattle.sqlite.specs.State.{State, HasCleanDisk}
use Rattle.book_desk_app.specs.declared.failures.StoreFailure.{StoreFailure}
use Rattle.book_desk_app.specs.declared.failures.StoreFailure.TheVariants as stores
use Rattle.book_desk_keeping.specs.Failures.{fault_status, keeping_text}
use Rattle.book_desk_keeping.specs.Keeping.{DoesOver, LeavesNew, Makes}
use Rattle.book_desk_keeping.specs.declared.failures.KeepingFault.{KeepingFault}
use Rattle.book_desk_keeping.specs.declared.failures.KeepingFault.TheVariants.{Line, LoadExists, LoadRefused, LoadUnknownPrincipal, LoadLastNumber, BackupExists, BackupDiffers, CopyExists, CopyRefused, CopyLastNumber, RestoreNotFound, RestoreNoParent, RestoreUnknownPrincipal, RestoreFull, RestoreLastNumber, Store, Output}
use Rattle.book_dumps.specs.Dumps.{dump_text}
use Rattle.book_dumps_changes.specs.declared.changed.Changed.{Changed}
use Rattle.book_dumps_loading.specs.Loading.{StandsForText}
use Rattle.book_dumps_reading.specs.Dumped.{dumped_text}
use Rattle.book_dumps_reading.specs.declared.dumped.Dumped.{Dumped}
use Rattle.book_dumps_restoring.specs.Restoring.{restored}
use Rattle.book_dumps_restoring.specs.declared.faults.RestoreFault.{RestoreFault}
use Rattle.book_dumps_restoring.specs.declared.faults.RestoreFault.TheVariants as faults
use Rattle.book_office.specs.Keeping.{Standing}
use Rattle.book_office_values.specs.Paths.{SpellsPath}
use Rattle.book_office_values.specs.declared.offices.Office.{Office}
use Rattle.book_office_values.specs.declared.paths.Path.{Path}

-- the fault of a restore as what is told of it
abbrev pub restore_fault : RestoreFault → KeepingFault
restore_fault faults.NotFound = RestoreNotFound
restore_fault faults.NoParent = RestoreNoParent
restore_fault faults.UnknownPrincipal = RestoreUnknownPrincipal
restore_fault faults.Full = RestoreFull
restore_fault faults.LastNumber = RestoreLastNumber
restore_fault faults.Memory = Store stores.Memory

-- the faults of a store, of a backup, and of what is restored
abbrev pub IsOfRestore : KeepingFault → Type 0
IsOfRestore (Line fault) = ⊥
IsOfRestore LoadExists = ⊥
IsOfRestore LoadRefused = Unit {0}
IsOfRestore LoadUnknownPrincipal = ⊥
IsOfRestore LoadLastNumber = ⊥
IsOfRestore BackupExists = ⊥
IsOfRestore BackupDiffers = ⊥
IsOfRestore CopyExists = ⊥
IsOfRestore CopyRefused = ⊥
IsOfRestore CopyLastNumber = ⊥
IsOfRestore RestoreNotFound = Unit {0}
IsOfRestore RestoreNoParent = Unit {0}
IsOfRestore RestoreUnknownPrincipal = Unit {0}
IsOfRestore RestoreFull = Unit {0}
IsOfRestore RestoreLastNumber = Unit {0}
IsOfRestore (Store failure) = Unit {0}
IsOfRestore Output = ⊥

-- what the dump of a keeper that was read tells
abbrev pub IsToldOf : Standing → Standing → Dumped → Type 0
IsToldOf old new dumped = new.honest → (o : Office) → old.stands o → dumped_text dumped ≡ dump_text o

-- a change is the one that puts what paths name in the Office of one keeper into that of another; texts spell the paths
pub record IsRestoredFrom (store store_after backup backup_after : Standing) (texts : List (List ℕ)) (changed : Changed) : Type 0 where
  pub dumped : Dumped
  pub kept : Dumped
  pub paths : List Path
  pub spelled : AllZip SpellsPath texts paths
  pub made : changed ≡ restored dumped kept paths
  pub of_store : IsToldOf store store_after dumped
  pub of_backup : IsToldOf backup backup_after kept

module _ {C : Type 0} (state : C → State) (store store_after backup backup_after : Standing) (texts : List (List ℕ)) (fresh : C) (held holds : Option (List ℕ)) where
  -- a new store was made of what was restored, and what is told of that was written
  pub record Restores (back : Option C) : Type 0 where
    pub changed : Changed
    pub from : IsRestoredFrom store store_after backup backup_after texts changed
    pub makes : Makes state fresh (λ made. HasCleanDisk (state made) → StandsForText (state made) (dumped_text changed.dumped)) back
    pub written : Appends held holds changed.told

  -- it was made, or it was not, which was told, with the status
  abbrev pub EndsRestore : (List ℕ → Type 0) → ℕ → Option C → Type 0
  EndsRestore Told status back =
      ((status ≡ 0) × Restores back)
      ⊎ ((fault : KeepingFault) × (status ≡ fault_status fault) × LeavesNew state fresh fault back × Told (keeping_text fault))

-- over a backup, whose Office stays, and which may be let go
module _ {B J : Type 0} (state : B → State) (connection : J → B) (failures : J → ℕ) (Told : List ℕ → Type 0) (is_not_had : B → StoreFailure → Type 0) where
  abbrev pub RestoresOver : Type 0 → (Standing → Standing → ℕ → Type 0) → B → ℕ → Type 0
  RestoresOver Untouched Does backup status = (back : Option B) × DoesOver state connection failures Told is_not_had Untouched Does backup status back
