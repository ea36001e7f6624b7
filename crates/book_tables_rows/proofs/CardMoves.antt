-- A card is moved: it leaves one book, and arrives in the other or in the same.
use Rattle.book_tables_rows.proofs.Common.{ℕ, List, State, rows_of}
use Rattle.book_tables_rows.specs.Plans.{Makes}
use Rattle.book_tables_rows.specs.Nodes.{leaving_book, arriving_in, moving_card}

pub moves : (old mid new : State) (source_book card_path source_name target_book destination target_name : List ℕ) → Makes old mid (leaving_book source_book source_name destination)
    → Makes mid new (arriving_in target_book card_path destination target_name) → Makes old new (moving_card source_book card_path source_name target_book destination target_name)
moves old mid new source_book card_path source_name target_book destination target_name left arrived = record {
  inside = arrived.inside;
  was_open = left.was_open;
  made = λ book fits.
      let x = left.made book fits in
      let y = arrived.made x.0 tt in
      (y.0, record { between = rows_of mid.now.trees; left = x.1; arrived = y.1 });
}
