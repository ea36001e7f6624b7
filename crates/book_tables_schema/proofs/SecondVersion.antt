-- What the UPDATE of the version leaves.
use Rattle.book_tables_schema.proofs.Common.{◌≡◌, List, [], ◌∷◌, refl, sym, subst, ◌∙◌, arith, State, book_schema}
use Rattle.std.proofs.Common.{inl, inr, ℕ, pos, true, not, cond, map, filter, Ok, ap, IsTrue, is_eq}
use Rattle.std.specs.List.Sorted.{IsPermutation}
use Rattle.std.proofs.lemmas.Cmp.{tied_itself}
use Rattle.sqlite.specs.declared.types.Value.TheVariants.{Int}
use Rattle.sqlite.specs.Order.{Row, value_cmp}
use Rattle.sqlite.specs.Term.{Term, col}
use Rattle.sqlite.specs.Program.{overlay}
use Rattle.sqlite.specs.Edit.{Edit, edit_of, id_in, put_all}
use Rattle.sqlite.specs.Rowids.TheVariants.{Given}
use Rattle.sqlite.specs.Tree.{put_row, without_rowid}
use Rattle.sqlite.specs.State.{ExecutesInside}
use Rattle.sqlite.proofs.Callers.{one_step, one_permutation}
use Rattle.sqlite_rules.specs.Calls.{ids_of}
use Rattle.sqlite_rules.specs.Cast.{cast_row}
use Rattle.sqlite_rules.specs.Edit.{without_all}
use Rattle.sqlite_schema.specs.declared.schema.Keys.TheVariants.{Enforced}
use Rattle.sqlite_value.proofs.OrderLemmas.{value_cmp_total}
use Rattle.sqlite_trees.specs.View.{is_int, IsShaped}
use Rattle.sqlite_trees.specs.declared.store.Shape.TheVariants.{Table as TableShape}
use Rattle.sqlite_keyed.specs.Lists.{update_where}
use Rattle.book_tables_rows.specs.Schema.{meta_table}
use Rattle.book_tables_rows.specs.Rows.{rows_of}
use Rattle.book_tables_schema.specs.Renewing.{set_second, IsFirstMeta, with_second, renumbered}
use Rattle.book_tables_rows.specs.Steps.{BecomesIf}
use Rattle.sqlite.specs.Command.TheVariants.{Update}
use Rattle.sqlite.specs.Listing.{understood}
use Rattle.sqlite.proofs.Callers.{IsPlain, command_of}
use Rattle.sqlite_tied.specs.Compute.{everything}
use Rattle.sqlite.specs.Term.{lit}
use Rattle.book_tables_rows.proofs.Typing.{cast_integer}
use Rattle.book_tables_rows.proofs.Shapes.{key_is}
use Rattle.book_tables_rows.proofs.Statements.{Wrote, updates, passes, shown_by, simple, answers}
use Rattle.book_tables_rows.proofs.Becoming.{as_book, book_after, meta_changed}

abbrev columns : List Term
columns = col 1 0 ∷ col 1 0 ∷ lit (Int (pos 2)) ∷ col 1 2 ∷ []

set_second_is : command_of (understood book_schema set_second) ≡ Update 4 (record { lets = []; body = simple 8 [] columns })
unfolding understood everything
set_second_is = refl

set_second_plain : IsPlain (understood book_schema set_second)
unfolding understood everything
set_second_plain = (refl, refl)

module _ (old new : State) where
  pub becomes_second : (count : ℕ) → ExecutesInside 0 set_second [] old new (Ok count) → BecomesIf old new (λ rows. (epoch : ℕ) × IsFirstMeta rows.meta epoch) renumbered
  becomes_second count h = record {
    inside = h.1.mode;
    was_open = h.1.was_open;
    is_open = h.1.is_open;
    rows = λ book meta.
        let db = old.now.trees in
        let shaped = book.rising meta_table (inr (inr (inr (inr (inl refl))))) in
        let r : Row = meta.1.0 ∷ Int (pos 1) ∷ Int (pos meta.0) ∷ [] in
        let is : db 8 ≡ r ∷ [] = meta.1.1 in
        let int : IsTrue (is_int meta.1.0) = (subst (IsShaped TableShape) is shaped).1.0 in
        let id_is : meta.1.0 ≡ Int (id_in meta.1.0) = key_is r int in
        let it = updates old new book.schema set_second [] 4 meta_table refl (simple 8 [] columns) set_second_is set_second_plain count h.0 in
        let answer = answers 8 [] columns (overlay db []) [] it.0 it.1 in
        let shown : Row = shown_by [] columns r in
        let given : it.0 ≡ shown ∷ [] = one_permutation shown it.0 (subst (λ rows. IsPermutation (map (shown_by [] columns) (filter (passes [] []) rows)) it.0) is answer) in
        let edit : Edit = edit_of db meta_table (ids_of (shown ∷ [])) Given 1 (shown ∷ []) in
        let w : Wrote db edit new.now = subst (λ all. Wrote db (edit_of db meta_table (ids_of all) Given 1 all) new.now) given it.2 in
        let applied = one_step book_schema Enforced db new.now.trees edit refl w.written in
        let row : Row = meta.1.0 ∷ Int (pos 2) ∷ Int (pos meta.0) ∷ [] in
        let cast_is : cast_row meta_table row ≡ row = rw (id_is, cast_integer (Int (id_in meta.1.0)) refl, cast_integer (Int (pos 2)) refl, cast_integer (Int (pos meta.0)) refl) refl in
        let out : without_rowid (id_in meta.1.0) (r ∷ []) ≡ [] =
        ap (λ b. cond (not b) (r ∷ []) []) (ap (λ v. is_eq (value_cmp v (Int (id_in meta.1.0)))) id_is ∙ ap is_eq (tied_itself value_cmp_total (Int (id_in meta.1.0)))) in
        let made : new.now.trees 8 ≡ row ∷ [] =
        applied.rows ∙ ap (λ rows. put_all (without_all rows (id_in meta.1.0 ∷ [])) (cast_row meta_table row ∷ [])) is ∙ ap (λ rows. put_row (cast_row meta_table row) rows) out ∙ ap (λ x. x ∷ []) cast_is in
        let shaped_after : IsShaped TableShape (new.now.trees 8) = subst (IsShaped TableShape) (sym made) ((tt, tt), (int, tt)) in (
          book_after db new.now edit (as_book old.now book) w applied shaped_after (λ e. omega (arith, e)),
          meta_changed db new.now.trees edit applied refl ∙ ap (λ m. record (rows_of db) { meta = m }) (made ∙ sym (ap (update_where (λ _. true) with_second) is)),
        );
  }
