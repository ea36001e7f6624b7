use Rattle.book_tables_schema.proofs.WidenedRows.{lists_kept}
use Rattle.book_tables_schema.proofs.laws.widened_rows_keep_lists.Goals as goal

pub returns : goal.returns
returns c = record { kept = lists_kept }
