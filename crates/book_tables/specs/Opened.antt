-- What a new store stands for.
use Rattle.std.specs.Prelude.{◌≡◌, ◌⊎◌}
use Rattle.sqlite.specs.declared.error.Error.{Error}
use Rattle.sqlite.specs.declared.error.Error.TheVariants.{SqliteFailure}
use Rattle.sqlite.specs.declared.error.ErrorCode.TheVariants.{OutOfMemory}
use Rattle.sqlite.specs.State.{State}
use Rattle.book_office_values.specs.declared.offices.Office.{Office}
use Rattle.book_office.specs.Keeping.{Leftover, whole}
use Rattle.book_tables_rows.specs.Steps.{Stays}
use Rattle.book_tables_schema.specs.Founding.{no_schema}
use Rattle.book_tables.specs.declared.opening.OpenFault.{OpenFault}
use Rattle.book_tables.specs.declared.opening.OpenFault.TheVariants.{Memory, Store}
use Rattle.book_tables.specs.Stands.{StandsFor, LeftOf}

-- want of memory, and any other failure of the store
abbrev pub open_fault : Error → OpenFault
open_fault (SqliteFailure OutOfMemory) = Memory
open_fault _ = Store

-- a connection stands for the Office, and a stop leaves that one alone
pub record StandsAlone (s : State) (o : Office) : Type 0 where
  pub stands : StandsFor s o
  pub left : (x : Leftover) → LeftOf s x → x ≡ whole o

-- a connection shows what it showed, and a stop leaves what it could leave before, or, of a store without tables, the Office
pub record IsUnfounded (old new : State) (o : Office) : Type 0 where
  pub stays : Stays old new
  pub left : (x : Leftover) → LeftOf new x → LeftOf old x ⊎ ((old.now.schema ≡ no_schema) × (x ≡ whole o))
