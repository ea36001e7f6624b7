-- A connection that was just opened.
use Rattle.sqlite.specs.Effect.{Database}
use Rattle.sqlite.specs.State.{State, HasCleanDisk, Opens}
use Rattle.book_tables_schema.specs.Tabled.{HasTables}

-- the rows of its tables rise by their numbers
abbrev pub RowsRise : Database → Type 0
RowsRise db = HasTables db.schema db

-- a connection that was just opened: it shows what is committed, and the rows of its tables rise
abbrev pub IsReopened : State → Type 0
IsReopened s = HasCleanDisk s → Opens s × RowsRise s.now
