-- What a statement of the fixed texts leaves of the tables.
use Rattle.book_tables_rows.proofs.Common.{◌≡◌, ◌⊎◌, inl, inr, ℕ, Bool, true, false, List, [], ◌∷◌, ◌++◌, map, filter, flat_map, slice_get, length, unwrap_or, Some, None, Result, Ok, Err, refl, sym, ap, subst, ◌∙◌, if◌then◌else◌, IsPermutation, IsPermutation-map, Value, Null, Row, Term, Query, IsAnswer, Output, inner, end, output, overlay, Values, Insert, Update, Delete, Edit, edit_of, Chosen, Given, Table, Trees, Tally, ids_of, understood, Database, IsDatabase, Enforced, State, Executes, IsPlain, command_of, statement_of, runs_as, book_schema, node_table}
use Rattle.std.specs.List.{list_all}
use Rattle.sqlite.specs.Term.{eval_all}
use Rattle.sqlite_sql.specs.Term.{holds}
use Rattle.sqlite.specs.Does.{Does, AtPlace, OnRows}
use Rattle.sqlite.specs.Rows.{Written, Task}
use Rattle.sqlite_rules.specs.Action.{Writes as EditWrites}
use Rattle.sqlite.specs.State.{mode_of}
use Rattle.book_tables_rows.specs.Texts as text
use Rattle.book_tables_rows.proofs.Meanings.{plain_query, insert_terms, insert_is, insert_plain}

-- a part that gave a value did not stop on the way
pub went : {B E R : Type 0} {b : B} {Stops : E → Type 0} → ((stop : E) × Stops stop × (Ok b ≡ Err stop)) ⊎ R → R
went (inl stopped) = absurd (let e = stopped.2 in cc)
went (inr on) = on

pub same_value : {B E : Type 0} {a b : B} → ◌≡◌ {A = Result B E} (Ok a) (Ok b) → a ≡ b
same_value e = cc

-- an edit of one table was written, with what it sets off
pub record Wrote (old : Trees) (edit : Edit) (new : Database) : Type 0 where
  pub schema : new.schema ≡ book_schema
  pub sound : IsDatabase new
  pub written : EditWrites book_schema Enforced old edit (Ok new.trees)

module _ (old new : State) (has : old.now.schema ≡ book_schema) where
  abbrev db : Trees
  db = old.now.trees

  pub inserts : (a b c d e f g : Value) (count : ℕ) → Executes text.insert_node (a ∷ b ∷ c ∷ d ∷ e ∷ f ∷ g ∷ []) old new (Ok count)
      → Wrote db (edit_of db node_table [] Chosen 0 ((Null ∷ Null ∷ a ∷ b ∷ c ∷ d ∷ e ∷ f ∷ g ∷ []) ∷ [])) new.now
  inserts a b c d e f g count h =
      let params : Row = a ∷ b ∷ c ∷ d ∷ e ∷ f ∷ g ∷ [] in
      let command = Insert 0 (Values insert_terms 9) in
      let w = runs_as text.insert_node params old new book_schema has command insert_is insert_plain count h in
      let sql = statement_of text.insert_node (understood book_schema text.insert_node) in
      let done = went (subst (λ s. Does old.step_limit (mode_of old) params (record old.now { schema = s }) sql None command (Ok (w.tally, new.now))) has w.changed) in
      let now = ap (λ (p : Tally × Database). p.1) (same_value (went (went done.2).2).2) in
      let given = went done.1 in
      let written = went (went given.2).2 in
      let counted = went written.2 in
      let trees : done.0.trees ≡ written.0 = ap (λ (it : Written). it.trees) (same_value counted.2) ∙ same_value counted.1 in
      let it = subst (λ all. EditWrites book_schema Enforced db (edit_of db node_table [] Chosen 0 all) (Ok written.0)) given.1.1 written.1 in
      record {
        schema = ap (λ (d : Database). d.schema) now;
        sound = w.sound;
        written = subst (λ t. EditWrites book_schema Enforced db (edit_of db node_table [] Chosen 0 ((Null ∷ Null ∷ params) ∷ [])) (Ok t)) (sym (ap (λ (d : Database). d.trees) now ∙ trees)) it;
      }

  module _ (sql : List ℕ) (params : Row) (at : ℕ) (table : Table) (there : slice_get book_schema.tables at ≡ Some table) (q : Query) where
    abbrev task : Task
    task = record { limit = old.step_limit; keys = Enforced; schema = book_schema; table = table; params = params }

    pub deletes : command_of (understood book_schema sql) ≡ Delete at (record { lets = []; body = q }) → IsPlain (understood book_schema sql) → (count : ℕ) → Executes sql params old new (Ok count)
        → (rows : List Row) × IsAnswer q (overlay db []) params rows × Wrote db (edit_of db table (ids_of rows) Given 0 []) new.now
    deletes is plain count h =
        let command = Delete at (record { lets = []; body = q }) in
        let w = runs_as sql params old new book_schema has command is plain count h in
        let text = statement_of sql (understood book_schema sql) in
        let does = subst (λ s. Does old.step_limit (mode_of old) params (record old.now { schema = s }) text None command (Ok (w.tally, new.now))) has w.changed in
        let done = went (subst (λ o. AtPlace (λ t. OnRows (record task { table = t }) (mode_of old) None command db) o (Ok (w.tally, new.now))) there does) in
        let now = ap (λ (p : Tally × Database). p.1) (same_value (went (went done.2).2).2) in
        let queried = went done.1 in
        let written = went queried.2 in
        let trees : done.0.trees ≡ written.0 = ap (λ (it : Written). it.trees) (same_value written.2) in (
          queried.0,
          queried.1.answer Null,
          record {
            schema = ap (λ (d : Database). d.schema) now;
            sound = w.sound;
            written = subst (λ t. EditWrites book_schema Enforced db (edit_of db table (ids_of queried.0) Given 0 []) (Ok t)) (sym (ap (λ (d : Database). d.trees) now ∙ trees)) written.1;
          },
        )

    pub updates : command_of (understood book_schema sql) ≡ Update at (record { lets = []; body = q }) → IsPlain (understood book_schema sql) → (count : ℕ) → Executes sql params old new (Ok count)
        → (rows : List Row) × IsAnswer q (overlay db []) params rows × Wrote db (edit_of db table (ids_of rows) Given 1 rows) new.now × (count ≡ length (edit_of db table (ids_of rows) Given 1 rows).news)
    updates is plain count h =
        let command = Update at (record { lets = []; body = q }) in
        let w = runs_as sql params old new book_schema has command is plain count h in
        let text = statement_of sql (understood book_schema sql) in
        let does = subst (λ s. Does old.step_limit (mode_of old) params (record old.now { schema = s }) text None command (Ok (w.tally, new.now))) has w.changed in
        let done = went (subst (λ o. AtPlace (λ t. OnRows (record task { table = t }) (mode_of old) None command db) o (Ok (w.tally, new.now))) there does) in
        let concluded = same_value (went (went done.2).2).2 in
        let now = ap (λ (p : Tally × Database). p.1) concluded in
        let queried = went done.1 in
        let written = went queried.2 in
        let trees : done.0.trees ≡ written.0 = ap (λ (it : Written). it.trees) (same_value written.2) in (
          queried.0,
          queried.1.answer Null,
          record {
            schema = ap (λ (d : Database). d.schema) now;
            sound = w.sound;
            written = subst (λ t. EditWrites book_schema Enforced db (edit_of db table (ids_of queried.0) Given 1 queried.0) (Ok t)) (sym (ap (λ (d : Database). d.trees) now ∙ trees)) written.1;
          },
          w.counted ∙ ap (λ (p : Tally × Database). unwrap_or p.0.rows 0) concluded ∙ ap (λ (it : Written). length it.rows) (same_value written.2),
        )

-- ---- what a query of one table shows

abbrev pub passes : Row → List Term → Row → Bool
passes params terms row = list_all (holds (params ∷ row ∷ [])) terms

abbrev pub shown_by : Row → List Term → Row → Row
shown_by params project row = eval_all project (params ∷ row ∷ [])

pub matched : {X : Type 0} (p : Row → Bool) (f : Row → X) (rows : List Row) → flat_map (λ r. if p r then f r ∷ [] else []) rows ≡ map f (filter p rows)
matched p f [] = refl
matched p f (r ∷ rows) =
    elim (p r) as (λ b. (if b then f r ∷ [] else []) ++ flat_map (λ r. if p r then f r ∷ [] else []) rows ≡ map f (Rattle.std.proofs.Common.cond b (r ∷ filter p rows) (filter p rows)))
    [ true ↦ ap (λ xs. f r ∷ xs) (matched p f rows) | false ↦ matched p f rows ]

pub map-map : {A B C : Type 0} (g : B → C) (f : A → B) (xs : List A) → map g (map f xs) ≡ map (λ x. g (f x)) xs
map-map g f [] = refl
map-map g f (x ∷ xs) = ap (λ l. g (f x) ∷ l) (map-map g f xs)

-- a query of one table, with no order and no limit
abbrev pub simple : ℕ → List Term → List Term → Query
simple tree terms project = record plain_query { from = inner tree end; filter = terms; project = project }

module _ (tree : ℕ) (terms project : List Term) (db : Trees) (params : Row) where
  -- it shows the rows that pass, in some order
  pub answers : (rows : List Row) → IsAnswer (simple tree terms project) db params rows → IsPermutation (map (shown_by params project) (filter (passes params terms) (db tree))) rows
  answers rows a =
      let staged : a.staged ≡ map (λ r. params ∷ r ∷ []) (filter (passes params terms) (db tree)) = a.grouped ∙ matched (passes params terms) (λ r. params ∷ r ∷ []) (db tree) in
      let kept : a.kept ≡ map (output (simple tree terms project)) a.staged = a.distinct in
      let first : map (λ (o : Output). o.1) a.kept ≡ map (shown_by params project) (filter (passes params terms) (db tree)) =
      ap (map (λ (o : Output). o.1)) (kept ∙ ap (map (output (simple tree terms project))) staged)
      ∙ map-map (λ (o : Output). o.1) (output (simple tree terms project)) (map (λ r. params ∷ r ∷ []) (filter (passes params terms) (db tree)))
      ∙ map-map (λ e. (output (simple tree terms project) e).1) (λ r. params ∷ r ∷ []) (filter (passes params terms) (db tree)) in
      subst (λ xs. IsPermutation xs rows) first (subst (IsPermutation (map (λ (o : Output). o.1) a.kept)) (sym a.shown) (IsPermutation-map (λ (o : Output). o.1) _ _ a.same))
