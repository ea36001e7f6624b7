-- What the UPDATE of the epoch leaves.
use Rattle.book_tables_rows.proofs.Common.{◌≡◌, inl, inr, ℕ, pos, true, not, cond, List, [], ◌∷◌, map, filter, Ok, refl, sym, ap, subst, ◌∙◌, IsTrue, is_eq, arith, IsPermutation, Int, Row, value_cmp, Term, col, overlay, Edit, edit_of, id_in, put_all, Given, without_rowid, State, ExecutesInside, one_step, one_permutation, ids_of, cast_row, without_all, Enforced, is_int, IsShaped, update_where, book_schema, meta_table, rows_of, HasMeta, BecomesIf}
use Rattle.std.proofs.lemmas.Cmp.{tied_itself}
use Rattle.sqlite.specs.Tree.{put_row}
use Rattle.sqlite_value.proofs.OrderLemmas.{value_cmp_total}
use Rattle.sqlite_trees.specs.declared.store.Shape.TheVariants.{Table as TableShape}
use Rattle.book_tables_rows.specs.Texts as text
use Rattle.book_tables_rows.specs.Writes as writes
use Rattle.book_tables_rows.specs.Writes.{with_epoch}
use Rattle.book_tables_rows.proofs.Meanings.{set_epoch_is, set_epoch_plain}
use Rattle.book_tables_rows.proofs.Typing.{cast_integer}
use Rattle.book_tables_rows.proofs.Shapes.{key_is}
use Rattle.book_tables_rows.proofs.Statements.{Wrote, updates, passes, shown_by, simple, answers}
use Rattle.book_tables_rows.proofs.Becoming.{as_book, book_after, meta_changed}

module _ (old new : State) (epoch : ℕ) where
  abbrev params : Row
  params = Int (pos epoch) ∷ []

  abbrev columns : List Term
  columns = col 1 0 ∷ col 1 0 ∷ col 1 1 ∷ col 0 0 ∷ []

  pub becomes_raised : (count : ℕ) → ExecutesInside 0 text.set_epoch (Int (pos epoch) ∷ []) old new (Ok count) → BecomesIf old new HasMeta (writes.set_epoch epoch)
  becomes_raised count h = record {
    inside = h.1.mode;
    was_open = h.1.was_open;
    is_open = h.1.is_open;
    rows = λ book meta.
        let db = old.now.trees in
        let shaped = book.rising meta_table (inr (inr (inr (inr (inl refl))))) in
        let r : Row = meta.1.0 ∷ Int (pos 2) ∷ Int (pos meta.0) ∷ [] in
        let is : db 8 ≡ r ∷ [] = meta.1.1 in
        let int : IsTrue (is_int meta.1.0) = (subst (IsShaped TableShape) is shaped).1.0 in
        let id_is : meta.1.0 ≡ Int (id_in meta.1.0) = key_is r int in
        let it = updates old new book.schema text.set_epoch params 4 meta_table refl (simple 8 [] columns) set_epoch_is set_epoch_plain count h.0 in
        let answer = answers 8 [] columns (overlay db []) params it.0 it.1 in
        let shown : Row = shown_by params columns r in
        let given : it.0 ≡ shown ∷ [] = one_permutation shown it.0 (subst (λ rows. IsPermutation (map (shown_by params columns) (filter (passes params []) rows)) it.0) is answer) in
        let edit : Edit = edit_of db meta_table (ids_of (shown ∷ [])) Given 1 (shown ∷ []) in
        let w : Wrote db edit new.now = subst (λ all. Wrote db (edit_of db meta_table (ids_of all) Given 1 all) new.now) given it.2 in
        let applied = one_step book_schema Enforced db new.now.trees edit refl w.written in
        let row : Row = meta.1.0 ∷ Int (pos 2) ∷ Int (pos epoch) ∷ [] in
        let cast_is : cast_row meta_table row ≡ row = rw (id_is, cast_integer (Int (id_in meta.1.0)) refl, cast_integer (Int (pos 2)) refl, cast_integer (Int (pos epoch)) refl) refl in
        let out : without_rowid (id_in meta.1.0) (r ∷ []) ≡ [] =
        ap (λ b. cond (not b) (r ∷ []) []) (ap (λ v. is_eq (value_cmp v (Int (id_in meta.1.0)))) id_is ∙ ap is_eq (tied_itself value_cmp_total (Int (id_in meta.1.0)))) in
        let made : new.now.trees 8 ≡ row ∷ [] =
        applied.rows ∙ ap (λ rows. put_all (without_all rows (id_in meta.1.0 ∷ [])) (cast_row meta_table row ∷ [])) is ∙ ap (λ rows. put_row (cast_row meta_table row) rows) out ∙ ap (λ x. x ∷ []) cast_is in
        let shaped_after : IsShaped TableShape (new.now.trees 8) = subst (IsShaped TableShape) (sym made) ((tt, tt), (int, tt)) in (
          book_after db new.now edit (as_book old.now book) w applied shaped_after (λ e. omega (arith, e)),
          meta_changed db new.now.trees edit applied refl ∙ ap (λ m. record (rows_of db) { meta = m }) (made ∙ sym (ap (update_where (λ _. true) (with_epoch epoch)) is)),
        );
  }
