-- The rows of `ace` are taken out.
use Rattle.book_tables_schema.proofs.Common.{◌≡◌, List, [], ◌∷◌, refl, sym, subst, ◌∙◌, arith, State, IsBook, book_schema}
use Rattle.std.proofs.Common.{◌≢◌, ◌⊎◌, inl, inr, ℕ, zero, suc, true, map, filter, Ok, ap}
use Rattle.std.specs.List.Sorted.{IsPermutation}
use Rattle.sqlite.specs.Command.TheVariants.{Delete}
use Rattle.sqlite.specs.Edit.{edit_of}
use Rattle.sqlite.specs.Listing.{understood}
use Rattle.sqlite.specs.Order.{Row}
use Rattle.sqlite.specs.Program.{overlay}
use Rattle.sqlite.specs.Rowids.TheVariants.{Given}
use Rattle.sqlite.specs.State.{ExecutesInside}
use Rattle.sqlite.specs.Term.{col}
use Rattle.sqlite.proofs.Callers.{IsPlain, command_of, one_step}
use Rattle.sqlite_keyed.specs.Lists.{delete_where}
use Rattle.sqlite_rules.specs.Action.{works}
use Rattle.sqlite_rules.specs.Calls.{ids_of}
use Rattle.sqlite_rules.specs.Edit.{taken_by}
use Rattle.sqlite_rules.proofs.ListLemmas.{all_has}
use Rattle.sqlite_schema.specs.Names.{same_name}
use Rattle.sqlite_schema.specs.declared.schema.Keys.TheVariants.{Enforced}
use Rattle.sqlite_tied.specs.Compute.{everything}
use Rattle.sqlite_trees.specs.View.{IsShaped}
use Rattle.sqlite_trees.specs.declared.store.Shape.TheVariants.{Table as TableShape}
use Rattle.book_tables_rows.specs.Rows.{rows_of}
use Rattle.book_tables_rows.specs.Schema.{ace_table}
use Rattle.book_tables_rows.proofs.Deleting.{picks_simple}
use Rattle.book_tables_rows.proofs.Shapes.{key, deletes_each}
use Rattle.book_tables_rows.proofs.Statements.{deletes, simple}
use Rattle.book_tables_schema.specs.Renewing.{delete_former}
use Rattle.book_tables_schema.specs.Tabled.{IsTabled}

delete_former_is : command_of (understood book_schema delete_former) ≡ Delete 1 (record { lets = []; body = simple 2 [] (col 1 0 ∷ []) })
unfolding understood everything
delete_former_is = refl

delete_former_plain : IsPlain (understood book_schema delete_former)
unfolding understood everything
delete_former_plain = (refl, refl)

works_former : (olds : List Row) → works book_schema Enforced 0 2 olds [] ≡ []
unfolding same_name everything
works_former olds = refl

none_left : (rows : List Row) → delete_where (λ r. true) rows ≡ []
none_left [] = refl
none_left (r ∷ rows) = none_left rows

apart_or : (a b : ℕ) → (a ≡ b) ⊎ (a ≢ b)
apart_or zero zero = inl refl
apart_or zero (suc b) = inr (λ e. omega (arith, e))
apart_or (suc a) zero = inr (λ e. omega (arith, e))
apart_or (suc a) (suc b) = elim (apart_or a b) [ inl e ↦ inl (ap suc e) | inr h ↦ inr (λ e. h (omega (arith, e))) ]

-- the tables are then those of a store, with the rows that they had
pub emptied : (old new : State) (count : ℕ) → ExecutesInside 0 delete_former [] old new (Ok count) → IsTabled old.now → IsBook new.now × (rows_of new.now.trees ≡ rows_of old.now.trees)
emptied old new count h tabled =
    let db = old.now.trees in
    let shaped : IsShaped TableShape (db 2) = tabled.rising ace_table (inr (inl refl)) in
    let it = deletes old new tabled.schema delete_former [] 1 ace_table refl (simple 2 [] (col 1 0 ∷ [])) delete_former_is delete_former_plain count h.0 in
    let picked : IsPermutation (map key (filter (λ r. true) (db 2))) (ids_of it.0) = picks_simple (overlay db []) 2 [] [] (λ r. true) (λ r. refl) it.0 it.1 in
    let edit = edit_of db ace_table (ids_of it.0) Given 0 [] in
    let applied = one_step book_schema Enforced db new.now.trees edit (works_former (taken_by db edit)) it.2.written in
    let former : new.now.trees 2 ≡ [] = applied.rows ∙ deletes_each (λ r. true) (db 2) (ids_of it.0) shaped picked ∙ none_left (db 2) in
    let nodes = applied.tables.0 (λ e. omega (arith, e)) in
    let members = applied.tables.1.1.0 (λ e. omega (arith, e)) in
    let gone = applied.tables.1.1.1.0 (λ e. omega (arith, e)) in
    let meta = applied.tables.1.1.1.1.0 (λ e. omega (arith, e)) in
    let entries = applied.tables.1.1.1.1.1.0 (λ e. omega (arith, e)) in
    let reach = applied.tables.1.1.1.1.1.1.0 (λ e. omega (arith, e)) in (
      record {
        schema = it.2.schema;
        rules = it.2.sound;
        rising = λ t there. elim (apart_or t.tree 2) [
          | inl is ↦ subst (λ k. IsShaped TableShape (new.now.trees k)) (sym is) (subst (IsShaped TableShape) (sym former) (tt, tt))
          | inr differs ↦ subst (IsShaped TableShape) (sym (all_has (λ u. u.tree ≢ 2 → new.now.trees u.tree ≡ db u.tree) book_schema.tables t applied.tables there differs)) (tabled.rising t there)
        ];
        former = former;
      },
      λ i. record { nodes = nodes i; entries = entries i; members = members i; gone = gone i; meta = meta i; reach = reach i },
    )
