-- What a look at the epoch shows.
use Rattle.book_tables_rows.proofs.Common.{pos, List, [], ◌∷◌, map, filter, slice_get, unwrap_or, ap, subst, IsPermutation, Int, Row, overlay, Term, col, State, Shown, reads_as, one_permutation, book_schema, ShowsEpoch, number_in}
use Rattle.book_tables_rows.specs.Texts as text
use Rattle.book_tables_rows.specs.Nodes.{told_epoch}
use Rattle.book_tables_rows.proofs.Keeping.{shown_open}
use Rattle.book_tables_rows.proofs.Meanings.{read_epoch_is, read_epoch_plain, read_epoch_unlisted}
use Rattle.book_tables_rows.proofs.Statements.{passes, shown_by, answers}

abbrev columns : List Term
columns = col 1 1 ∷ col 1 2 ∷ []

pub shows_epoch : (old new : State) (rows : List Row) → Shown text.read_epoch [] old new rows → ShowsEpoch old (number_in (told_epoch (unwrap_or (slice_get rows 0) [])))
shows_epoch old new rows h = (
  shown_open text.read_epoch [] old new rows h,
  λ book n meta.
      let db = old.now.trees in
      let r : Row = meta.0 ∷ Int (pos 2) ∷ Int (pos n) ∷ [] in
      let read = (reads_as text.read_epoch [] old new book_schema book.schema _ read_epoch_is read_epoch_plain read_epoch_unlisted rows h).answer Rattle.sqlite.specs.declared.types.Value.TheVariants.Null in
      let answer = answers 8 [] columns (overlay db []) [] rows read in
      let given = one_permutation (shown_by [] columns r) rows (subst (λ rs. IsPermutation (map (shown_by [] columns) (filter (passes [] []) rs)) rows) meta.1 answer) in
      ap (λ all. number_in (told_epoch (unwrap_or (slice_get all 0) []))) given,
)
