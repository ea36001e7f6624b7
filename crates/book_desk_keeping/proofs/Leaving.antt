-- What is left of a new store that was not made, and that no fault has the status of what was done.
use Rattle.book_desk_keeping.proofs.Common.{◌≡◌, ◌≢◌, Some, ap, arith, refl}
use Rattle.sqlite.specs.Held.{Held}
use Rattle.sqlite.specs.State.{State}
use Rattle.book_desk_keeping.specs.Failures.{copy_fault, fault_status, load_fault}
use Rattle.book_desk_keeping.specs.Keeping.{IsOfInput, IsOfSource, LeavesNew, connection_in}
use Rattle.book_desk_keeping.specs.Restoring.{IsOfRestore}
use Rattle.book_desk_keeping.specs.declared.failures.KeepingFault.{KeepingFault}
use Rattle.book_desk_keeping.specs.declared.failures.KeepingFault.TheVariants.{Line, LoadExists, LoadRefused, LoadUnknownPrincipal, LoadLastNumber, BackupExists, BackupDiffers, CopyExists, CopyRefused, CopyLastNumber, RestoreNotFound, RestoreNoParent, RestoreUnknownPrincipal, RestoreFull, RestoreLastNumber, Store, Output}
use Rattle.book_dumps_loading.specs.declared.faults.LoadFault.{LoadFault}
use Rattle.book_dumps_loading.specs.declared.faults.LoadFault.TheVariants as faults
use Rattle.book_tables_schema.specs.Founding.{no_schema}
use Rattle.book_tables_schema.specs.declared.reopening.Unopened.{Unopened}
use Rattle.book_tables_schema.specs.declared.reopening.Unopened.TheVariants.{Connection}

module _ {S : Type 0} (state : Held S → State) (fresh : Held S) (left : Unopened S) where
  -- a store that has tables comes back
  abbrev ComesBack : LoadFault → Type 0
  ComesBack fault = fault ≡ faults.Exists → ((state fresh).now.schema ≢ no_schema) × (left ≡ Connection fresh)

  pub load_leaves : (fault : LoadFault) → ComesBack fault → LeavesNew state fresh (load_fault fault) (connection_in left)
  load_leaves faults.Exists back = ((back refl).0, ap connection_in (back refl).1)
  load_leaves faults.Refused back = tt
  load_leaves faults.Unequal back = tt
  load_leaves faults.Memory back = tt
  load_leaves faults.Store back = tt

  pub copy_leaves : (fault : LoadFault) → ComesBack fault → LeavesNew state fresh (copy_fault fault) (connection_in left)
  copy_leaves faults.Exists back = ((back refl).0, ap connection_in (back refl).1)
  copy_leaves faults.Refused back = tt
  copy_leaves faults.Unequal back = tt
  copy_leaves faults.Memory back = tt
  copy_leaves faults.Store back = tt

module _ {C : Type 0} (state : C → State) (fresh : C) where
  -- where the input or the source is at fault it comes back as it is
  pub input_leaves : (fault : KeepingFault) → IsOfInput fault → LeavesNew state fresh fault (Some fresh)
  input_leaves (Line fault) is = refl
  input_leaves LoadExists is = absurd is
  input_leaves LoadRefused is = absurd is
  input_leaves LoadUnknownPrincipal is = refl
  input_leaves LoadLastNumber is = refl
  input_leaves BackupExists is = absurd is
  input_leaves BackupDiffers is = absurd is
  input_leaves CopyExists is = absurd is
  input_leaves CopyRefused is = absurd is
  input_leaves CopyLastNumber is = absurd is
  input_leaves RestoreNotFound is = absurd is
  input_leaves RestoreNoParent is = absurd is
  input_leaves RestoreUnknownPrincipal is = absurd is
  input_leaves RestoreFull is = absurd is
  input_leaves RestoreLastNumber is = absurd is
  input_leaves (Store failure) is = tt
  input_leaves Output is = absurd is

  pub source_leaves : (fault : KeepingFault) → IsOfSource fault → LeavesNew state fresh fault (Some fresh)
  source_leaves (Line fault) is = absurd is
  source_leaves LoadExists is = absurd is
  source_leaves LoadRefused is = absurd is
  source_leaves LoadUnknownPrincipal is = absurd is
  source_leaves LoadLastNumber is = absurd is
  source_leaves BackupExists is = absurd is
  source_leaves BackupDiffers is = absurd is
  source_leaves CopyExists is = absurd is
  source_leaves CopyRefused is = tt
  source_leaves CopyLastNumber is = refl
  source_leaves RestoreNotFound is = absurd is
  source_leaves RestoreNoParent is = absurd is
  source_leaves RestoreUnknownPrincipal is = absurd is
  source_leaves RestoreFull is = absurd is
  source_leaves RestoreLastNumber is = absurd is
  source_leaves (Store failure) is = tt
  source_leaves Output is = absurd is

  pub restore_leaves : (fault : KeepingFault) → IsOfRestore fault → LeavesNew state fresh fault (Some fresh)
  restore_leaves (Line fault) is = absurd is
  restore_leaves LoadExists is = absurd is
  restore_leaves LoadRefused is = tt
  restore_leaves LoadUnknownPrincipal is = absurd is
  restore_leaves LoadLastNumber is = absurd is
  restore_leaves BackupExists is = absurd is
  restore_leaves BackupDiffers is = absurd is
  restore_leaves CopyExists is = absurd is
  restore_leaves CopyRefused is = absurd is
  restore_leaves CopyLastNumber is = absurd is
  restore_leaves RestoreNotFound is = refl
  restore_leaves RestoreNoParent is = refl
  restore_leaves RestoreUnknownPrincipal is = refl
  restore_leaves RestoreFull is = refl
  restore_leaves RestoreLastNumber is = refl
  restore_leaves (Store failure) is = tt
  restore_leaves Output is = absurd is

-- the fault of a source that has no table in the way
pub copy_source : (fault : LoadFault) → fault ≢ faults.Exists → IsOfSource (copy_fault fault)
copy_source faults.Exists not = absurd (not refl)
copy_source faults.Refused not = tt
copy_source faults.Unequal not = tt
copy_source faults.Memory not = tt
copy_source faults.Store not = tt

-- the fault of the dump of a store that is restored, or of a backup
pub load_source : (fault : LoadFault) → fault ≢ faults.Exists → IsOfRestore (load_fault fault)
load_source faults.Exists not = absurd (not refl)
load_source faults.Refused not = tt
load_source faults.Unequal not = tt
load_source faults.Memory not = tt
load_source faults.Store not = tt

pub fault_not_done : (fault : KeepingFault) → fault_status fault ≡ 0 → ⊥
fault_not_done (Line fault) e = omega (arith, e)
fault_not_done LoadExists e = omega (arith, e)
fault_not_done LoadRefused e = omega (arith, e)
fault_not_done LoadUnknownPrincipal e = omega (arith, e)
fault_not_done LoadLastNumber e = omega (arith, e)
fault_not_done BackupExists e = omega (arith, e)
fault_not_done BackupDiffers e = omega (arith, e)
fault_not_done CopyExists e = omega (arith, e)
fault_not_done CopyRefused e = omega (arith, e)
fault_not_done CopyLastNumber e = omega (arith, e)
fault_not_done RestoreNotFound e = omega (arith, e)
fault_not_done RestoreNoParent e = omega (arith, e)
fault_not_done RestoreUnknownPrincipal e = omega (arith, e)
fault_not_done RestoreFull e = omega (arith, e)
fault_not_done RestoreLastNumber e = omega (arith, e)
fault_not_done (Store failure) e = omega (arith, e)
fault_not_done Output e = omega (arith, e)
