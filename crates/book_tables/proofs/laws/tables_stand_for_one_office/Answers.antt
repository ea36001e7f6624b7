use Rattle.book_tables.proofs.Common.{rows_of}
use Rattle.book_tables.proofs.OneOffice.{one_office}
use Rattle.book_tables.proofs.laws.tables_stand_for_one_office.Goals as goal

pub returns : goal.returns
returns c = λ db o p a b. one_office (rows_of db.trees) o p a.gives b.gives a.sound b.sound
