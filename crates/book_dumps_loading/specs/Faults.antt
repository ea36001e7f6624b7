-- Why a dump did not become a store.
use Rattle.book_office.specs.declared.keepers.StoreFault.{StoreFault}
use Rattle.book_office.specs.declared.keepers.StoreFault.TheVariants as keeper_faults
use Rattle.book_tables.specs.declared.opening.OpenFault.{OpenFault}
use Rattle.book_tables.specs.declared.opening.OpenFault.TheVariants as open_faults
use Rattle.book_dumps_loading.specs.declared.faults.LoadFault.{LoadFault}
use Rattle.book_dumps_loading.specs.declared.faults.LoadFault.TheVariants.{Refused, Memory, Store}
use Rattle.book_dumps_loading.specs.declared.faults.RowFault.{RowFault}
use Rattle.book_dumps_loading.specs.declared.faults.RowFault.TheVariants as rows

abbrev pub row_fault : RowFault → LoadFault
row_fault rows.Refused = Refused
row_fault rows.Memory = Memory
row_fault rows.Store = Store

-- rows that stand for no Office are refused
abbrev pub open_fault : OpenFault → LoadFault
open_fault open_faults.OtherVersion = Refused
open_fault open_faults.NoStore = Refused
open_fault open_faults.Memory = Memory
open_fault open_faults.Store = Store

abbrev pub keeper_fault : StoreFault → LoadFault
keeper_fault keeper_faults.Memory = Memory
keeper_fault keeper_faults.Store = Store
