use Rattle.book_tables_rows.proofs.WrittenBoth.{both_are_read, other_lists_stay}
use Rattle.book_tables_rows.proofs.adopting.both_lists_are_read.Goals as goal

pub returns-clause-read : goal.returns-clause-read
returns-clause-read c = both_are_read

pub returns-clause-stay : goal.returns-clause-stay
returns-clause-stay c = other_lists_stay
