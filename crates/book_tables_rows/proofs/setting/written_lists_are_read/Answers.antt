use Rattle.book_tables_rows.proofs.WrittenLists.{written_are_read, others_stay}
use Rattle.book_tables_rows.proofs.setting.written_lists_are_read.Goals as goal

pub returns-clause-read : goal.returns-clause-read
returns-clause-read c = written_are_read

pub returns-clause-stay : goal.returns-clause-stay
returns-clause-stay c = others_stay
