-- What an INSERT of one row leaves.
use Rattle.book_tables_rows.proofs.Common.{◌≡◌, ℕ, Bool, true, false, List, [], ◌∷◌, ◌++◌, length, slice_get, Option, Some, None, Ok, refl, sym, ap, subst, ◌∙◌, true≢false, if◌then◌else◌, option_copied, Int, Text, Row, Term, Values, Insert, Edit, edit_of, next_rowid, Applies, put_all, Database, Chosen, Table, Trees, rowid, Tally, understood, State, Executes, IsPlain, command_of, statement_of, runs_as, Has, Enforced, is_int, IsShaped, book_schema, IsBook, or_null}
use Rattle.std.proofs.Common.{◌≢◌, ◌/◌, MatchBool}
use denote.Bor.{Bor}
use Rattle.sqlite.specs.Values as values
use Rattle.sqlite.specs.Effect.{value_rows}
use Rattle.sqlite.specs.Rowids.TheVariants.{Above}
use Rattle.sqlite.specs.Does.{Does, AtPlace, OnRows}
use Rattle.sqlite.specs.Rows.{Written, Task, stamped, count_of}
use Rattle.sqlite.specs.State.{mode_of}
use Rattle.sqlite_rules.specs.Action.{Writes as EditWrites}
use Rattle.sqlite_trees.specs.declared.store.Shape.TheVariants.{Table as TableShape}
use Rattle.sqlite_trees.proofs.TreeLemmas.{IsShaped-put_row}
use Rattle.book_tables_rows.proofs.Statements.{Wrote, went, same_value}
use Rattle.book_tables_rows.proofs.Shapes.{put_next}
use Rattle.book_tables_rows.proofs.Becoming.{as_book, book_after}

-- a text that may be missing is bound so
pub or_text : (w : Option (Bor (List ℕ))) → values.or_null (λ s. Text s.now) w ≡ or_null (option_copied w)
or_text None = refl
or_text (Some s) = refl

-- the branch that is taken where no row is counted
unmatched : (P Q : Type 0) (b c : Bool) → b ≡ false → MatchBool (if b then c else false) P Q → Q
unmatched P Q true c e h = absurd (true≢false e)
unmatched P Q false c e h = h

module _ (old new : State) (sql : List ℕ) (params : Row) (at : ℕ) (table : Table) (there : slice_get book_schema.tables at ≡ Some table) (listed : Has book_schema.tables table) (apart : table.tree ≢ 2) (uncounted : table.is_counted ≡ false)
    (terms : List Term) (width : ℕ) (is : command_of (understood book_schema sql) ≡ Insert at (Values terms width)) (plain : IsPlain (understood book_schema sql))
    (source : Row) (shows : value_rows (stamped table params) width (length terms / width) terms ≡ source ∷ []) where
  abbrev db : Trees
  db = old.now.trees

  abbrev task : Task
  task = record { limit = old.step_limit; keys = Enforced; schema = book_schema; table = table; params = params }

  pub inserts_row : old.now.schema ≡ book_schema → (count : ℕ) → Executes sql params old new (Ok count) → Wrote db (edit_of db table [] Chosen 0 (source ∷ [])) new.now
  inserts_row has count h =
      let command = Insert at (Values terms width) in
      let w = runs_as sql params old new book_schema has command is plain count h in
      let text = statement_of sql (understood book_schema sql) in
      let does = subst (λ s. Does old.step_limit (mode_of old) params (record old.now { schema = s }) text None command (Ok (w.tally, new.now))) has w.changed in
      let done = went (subst (λ o. AtPlace (λ t. OnRows (record task { table = t }) (mode_of old) None command db) o (Ok (w.tally, new.now))) there does) in
      let now = ap (λ (p : Tally × Database). p.1) (same_value (went (went done.2).2).2) in
      let given = went done.1 in
      let counter = went given.2 in
      let written = went counter.2 in
      let counted = went written.2 in
      let trees : done.0.trees ≡ written.0 = ap (λ (it : Written). it.trees) (same_value counted.2) ∙ same_value (unmatched _ _ table.is_counted _ uncounted counted.1) in
      let chosen : EditWrites book_schema Enforced db (edit_of db table [] Chosen 0 given.0) (Ok written.0) =
      subst (λ k. EditWrites book_schema Enforced db (edit_of db table [] k 0 given.0) (Ok written.0)) (ap (λ b. if b then Above (count_of counter.0) else Chosen) uncounted) written.1 in
      let it : EditWrites book_schema Enforced db (edit_of db table [] Chosen 0 (source ∷ [])) (Ok written.0) =
      subst (λ all. EditWrites book_schema Enforced db (edit_of db table [] Chosen 0 all) (Ok written.0)) (given.1.1 ∙ shows) chosen in
      record {
        schema = ap (λ (d : Database). d.schema) now;
        sound = w.sound;
        written = subst (λ t. EditWrites book_schema Enforced db (edit_of db table [] Chosen 0 (source ∷ [])) (Ok t)) (sym (ap (λ (d : Database). d.trees) now ∙ trees)) it;
      }

  module _ (new_row : Row) (next : rowid new_row ≡ Int (next_rowid (db table.tree))) (news : (edit_of db table [] Chosen 0 (source ∷ [])).news ≡ new_row ∷ [])
      (quiet : (after : Trees) → EditWrites book_schema Enforced db (edit_of db table [] Chosen 0 (source ∷ [])) (Ok after) → Applies book_schema Enforced db (edit_of db table [] Chosen 0 (source ∷ [])) after) where
    pub inserted : (count : ℕ) → Executes sql params old new (Ok count) → IsBook old.now
        → IsBook new.now × ((edit : Edit) × (edit.table ≡ table) × Applies book_schema Enforced db edit new.now.trees) × (new.now.trees table.tree ≡ db table.tree ++ new_row ∷ [])
    inserted count h book =
        let shaped = book.rising table listed in
        let w = inserts_row book.schema count h in
        let edit : Edit = edit_of db table [] Chosen 0 (source ∷ []) in
        let applied = quiet new.now.trees w.written in
        let put = applied.rows ∙ ap (put_all (db table.tree)) news in
        let rows : new.now.trees table.tree ≡ db table.tree ++ new_row ∷ [] = put ∙ put_next (db table.tree) new_row shaped next in
        let shaped_after = subst (IsShaped TableShape) (sym put) (IsShaped-put_row new_row (db table.tree) (ap is_int next) shaped) in
        (book_after db new.now edit (as_book old.now book) w applied shaped_after apart, (edit, refl, applied), rows)
