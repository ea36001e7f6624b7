-- What the definitions imply.
use Rattle.std.specs.Prelude.{◌≡◌}
use Rattle.sqlite.specs.Effect.{Database}
use Rattle.book_office_values.specs.declared.offices.Office.{Office}
use Rattle.book_tables.specs.Stands.{Stands}

-- tables stand for one Office at most
abbrev pub TablesStandForOneOffice : Type 0
TablesStandForOneOffice = (db : Database) (o p : Office) → Stands db o → Stands db p → o ≡ p
