-- What is told where a store was not made, or differs, and the status that ends the program (own profile).
use Rattle.std.specs.Prelude.{ℕ, List, codes}
use Rattle.book_desk_app.specs.Failures.{store_text}
use Rattle.book_desk_app.specs.declared.failures.StoreFailure.TheVariants as stores
use Rattle.book_desk_keeping.specs.declared.failures.KeepingFault.{KeepingFault}
use Rattle.book_desk_keeping.specs.declared.failures.KeepingFault.TheVariants.{Line, LoadExists, LoadRefused, LoadUnknownPrincipal, LoadLastNumber, BackupExists, BackupDiffers, CopyExists, CopyRefused, CopyLastNumber, RestoreNotFound, RestoreNoParent, RestoreUnknownPrincipal, RestoreFull, RestoreLastNumber, Store, Output}
use Rattle.book_dumps_loading.specs.declared.faults.LoadFault.{LoadFault}
use Rattle.book_dumps_loading.specs.declared.faults.LoadFault.TheVariants as faults
use Rattle.book_dumps_reading.specs.Faults.{fault_text}

-- the fault of a load as what is told of it
abbrev pub load_fault : LoadFault → KeepingFault
load_fault faults.Exists = LoadExists
load_fault faults.Refused = LoadRefused
load_fault faults.Unequal = LoadRefused
load_fault faults.Memory = Store stores.Memory
load_fault faults.Store = Store stores.Store

-- the fault of a copy
abbrev pub copy_fault : LoadFault → KeepingFault
copy_fault faults.Exists = CopyExists
copy_fault faults.Refused = CopyRefused
copy_fault faults.Unequal = CopyRefused
copy_fault faults.Memory = Store stores.Memory
copy_fault faults.Store = Store stores.Store

abbrev pub keeping_text : KeepingFault → List ℕ
keeping_text (Line fault) = fault_text fault
keeping_text LoadExists = codes "load: exists"
keeping_text LoadRefused = codes "load: refused"
keeping_text LoadUnknownPrincipal = codes "load: unknown-principal"
keeping_text LoadLastNumber = codes "load: last-number"
keeping_text BackupExists = codes "backup: exists"
keeping_text BackupDiffers = codes "backup: differs"
keeping_text CopyExists = codes "copy: exists"
keeping_text CopyRefused = codes "copy: refused"
keeping_text CopyLastNumber = codes "copy: last-number"
keeping_text RestoreNotFound = codes "restore: not-found"
keeping_text RestoreNoParent = codes "restore: no-parent"
keeping_text RestoreUnknownPrincipal = codes "restore: unknown-principal"
keeping_text RestoreFull = codes "restore: full"
keeping_text RestoreLastNumber = codes "restore: last-number"
keeping_text (Store failure) = store_text failure
keeping_text Output = codes "output: write"

-- 1 is refused input, or a difference; 3 is memory, a store, a failed write, or what was read back
abbrev pub fault_status : KeepingFault → ℕ
fault_status (Line fault) = 1
fault_status LoadExists = 1
fault_status LoadRefused = 3
fault_status LoadUnknownPrincipal = 1
fault_status LoadLastNumber = 1
fault_status BackupExists = 1
fault_status BackupDiffers = 1
fault_status CopyExists = 1
fault_status CopyRefused = 3
fault_status CopyLastNumber = 1
fault_status RestoreNotFound = 1
fault_status RestoreNoParent = 1
fault_status RestoreUnknownPrincipal = 1
fault_status RestoreFull = 1
fault_status RestoreLastNumber = 1
fault_status (Store failure) = 3
fault_status Output = 3
