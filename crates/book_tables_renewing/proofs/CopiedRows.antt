-- What a copy of all entries from one table to another leaves of the tables.
use Rattle.std.proofs.Common.{◌≡◌, ◌≢◌, ◌⊎◌, inl, inr, ℕ, zero, suc, pos, negsuc, ◌+◌, ◌*◌, ◌%◌, ◌<◌, ◌≤◌, Bool, true, false, not, if◌then◌else◌, List, [], ◌∷◌, ◌++◌, map, filter, drop, length, ◌==◌, Option, Some, None, Ok, slice_get, Less, refl, sym, ap, subst, ◌∙◌, true≢false, IsTrue, is_eq, is_gt, Ordering, cond, arith}
use Rattle.std.specs.Bool.{MatchBool}
use Rattle.std.specs.List.{AllByRecursion, flat_map, filter_map}
use Rattle.std.specs.Ordering.{match_ordering}
use Rattle.std.proofs.lemmas.Bool.{and_parts, ltb-true}
use Rattle.sqlite.specs.declared.types.Value.{Value}
use Rattle.sqlite.specs.declared.types.Value.TheVariants.{Null, Int, Real, Text, Blob}
use Rattle.sqlite.specs.Does.{Tally, Does, AtPlace, OnRows}
use Rattle.sqlite.specs.Edit.{Edit, edit_of, put_all}
use Rattle.sqlite.specs.Effect.{Database, IsDatabase}
use Rattle.sqlite.specs.Kind.TheVariants as kinds
use Rattle.sqlite.specs.Listing.{understood}
use Rattle.sqlite.specs.Order.{Row, column, value_cmp}
use Rattle.sqlite.specs.Ops.{is_null}
use Rattle.sqlite.specs.Program.{overlay}
use Rattle.sqlite.specs.Query.{IsAnswer}
use Rattle.sqlite.specs.Rowids.TheVariants.{Above, Chosen}
use Rattle.sqlite.specs.Rows.{Written, Task, count_of, stamped}
use Rattle.sqlite.specs.Schema.{Schema}
use Rattle.sqlite.specs.State.{State, mode_of, Executes, ExecutesInside}
use Rattle.sqlite.specs.Table.{Table}
use Rattle.sqlite.specs.Term.{Term}
use Rattle.sqlite.specs.Tree.{Trees, rowid, put_row}
use Rattle.sqlite.proofs.Callers.{IsPlain, command_of, statement_of, runs_as, one_step}
use Rattle.sqlite_catalog.specs.Listing.{IsSound}
use Rattle.sqlite_keyed.specs.Lists.{insert_sorted, sort_by}
use Rattle.sqlite_keyed.proofs.ListLemmas.{ascending-map, ascending_weaker}
use Rattle.sqlite_rules.specs.Action.{works, work_by, deed_for, Writes as EditWrites}
use Rattle.sqlite_rules.specs.Cast.{cast_row}
use Rattle.sqlite_rules.specs.Edit.{Applies, numbered}
use Rattle.sqlite_rules.specs.Lists.{Has}
use Rattle.sqlite_rules.proofs.ListLemmas.{all_has}
use Rattle.sqlite_schema.specs.Names.{same_name}
use Rattle.sqlite_schema.specs.Rules.{are_present, are_typed, is_of, parent_key}
use Rattle.sqlite_schema.specs.declared.schema.Column.{Column}
use Rattle.sqlite_schema.specs.declared.schema.Constraint.TheVariants.{Datatype, NotNull}
use Rattle.sqlite_schema.specs.declared.schema.Keys.TheVariants.{Enforced}
use Rattle.sqlite_tied.specs.Compute.{everything}
use Rattle.sqlite_trees.specs.Tree.{IsAscending}
use Rattle.sqlite_trees.specs.View.{is_int, IsShaped}
use Rattle.sqlite_trees.specs.declared.store.Shape.TheVariants.{Table as TableShape}
use Rattle.book_tables_rows.specs.Columns.{ace_mask}
use Rattle.book_tables_rows.specs.Rows.{rows_of}
use Rattle.book_tables_rows.specs.Schema.{book_schema, ace_table, ace2_table, ace_columns, ace_tree, ace2_tree}
use Rattle.book_tables_rows.proofs.Becoming.{entries_changed}
use Rattle.book_tables_rows.proofs.Ordering.{ordered_by, answers_in_order}
use Rattle.book_tables_rows.proofs.Shapes.{key_is, Ints}
use Rattle.book_tables_rows.proofs.Statements.{went, same_value, shown_by}
use Rattle.book_tables_rows.proofs.Typing.{cast_integer, cast_text, typed_at}
use Rattle.book_tables_schema.specs.Layout.{former_table, former_tree}
use Rattle.book_tables_schema.specs.OtherReach.{schema_of}
use Rattle.book_tables_schema.specs.Renewing.{widened_row}
use Rattle.book_tables_schema.specs.Tabled.{HasTables, IsTabled}
use Rattle.book_tables_schema.specs.declared.layout.Generation.TheVariants.{Former}
use Rattle.book_tables_renewing.specs.Renewal.{copy_text, is_first_mask, HasFirstMask, Copies}
use Rattle.book_tables_renewing.specs.Reordering.{back_text, move_text, Moves, CopiesBack}
use Rattle.book_tables_renewing.proofs.CopyTexts.{copy_command, copy_query, copied_row, copy_terms, same_terms, copy_is, copy_plain, back_is, back_plain, move_is, move_plain, mask_widened, widened_mask}

apart_or : (a b : ℕ) → (a ≡ b) ⊎ (a ≢ b)
apart_or zero zero = inl refl
apart_or zero (suc b) = inr (λ e. omega (arith, e))
apart_or (suc a) zero = inr (λ e. omega (arith, e))
apart_or (suc a) (suc b) = elim (apart_or a b) [ inl e ↦ inl (ap suc e) | inr h ↦ inr (λ e. h (omega (arith, e))) ]

past_first : (r : Row) (i : ℕ) → column (drop 1 r) i ≡ column r (suc i)
past_first [] i = refl
past_first (v ∷ r) i = refl

unmatched : (P Q : Type 0) (b c : Bool) → b ≡ false → MatchBool (if b then c else false) P Q → Q
unmatched P Q true c e h = absurd (true≢false e)
unmatched P Q false c e h = h

record WroteUnder (schema : Schema) (old : Trees) (edit : Edit) (new : Database) : Type 0 where
  pub schema_is : new.schema ≡ schema
  pub sound : IsDatabase new
  pub written : EditWrites schema Enforced old edit (Ok new.trees)

-- ---- an INSERT of what a query answers: a table, its source and its place are given, whatever the schema

module _ (old new : State) (schema : Schema) (sql : List ℕ) (at from : ℕ) (table : Table) (terms : List Term) (there : slice_get schema.tables at ≡ Some table) (uncounted : table.is_counted ≡ false)
    (unstamped : stamped table [] ≡ []) (is : command_of (understood schema sql) ≡ copy_command at from terms) (plain : IsPlain (understood schema sql)) (has : old.now.schema ≡ schema) where
  abbrev db : Trees
  db = old.now.trees

  abbrev task : Task
  task = record { limit = old.step_limit; keys = Enforced; schema = schema; table = table; params = [] }

  inserts_answer : (count : ℕ) → Executes sql [] old new (Ok count)
      → (rows : List Row) × IsAnswer (copy_query from terms) (overlay db []) [] rows × WroteUnder schema db (edit_of db table [] Chosen 0 rows) new.now
  inserts_answer count h =
      let command = copy_command at from terms in
      let w = runs_as sql [] old new schema has command is plain count h in
      let text = statement_of sql (understood schema sql) in
      let does = subst (λ s. Does old.step_limit (mode_of old) [] (record old.now { schema = s }) text None command (Ok (w.tally, new.now))) has w.changed in
      let done = went (subst (λ o. AtPlace (λ t. OnRows (record task { table = t }) (mode_of old) None command db) o (Ok (w.tally, new.now))) there does) in
      let now = ap (λ (p : Tally × Database). p.1) (same_value (went (went done.2).2).2) in
      let given = went done.1 in
      let counter = went given.2 in
      let written = went counter.2 in
      let counted = went written.2 in
      let trees : done.0.trees ≡ written.0 = ap (λ (it : Written). it.trees) (same_value counted.2) ∙ same_value (unmatched _ _ table.is_counted _ uncounted counted.1) in
      let chosen : EditWrites schema Enforced db (edit_of db table [] Chosen 0 given.0) (Ok written.0) =
      subst (λ k. EditWrites schema Enforced db (edit_of db table [] k 0 given.0) (Ok written.0)) (ap (λ b. if b then Above (count_of counter.0) else Chosen) uncounted) written.1 in (
        given.0,
        subst (λ (params : Row). IsAnswer (copy_query from terms) (overlay db []) params given.0) unstamped (given.1.answer Null),
        record {
          schema_is = ap (λ (d : Database). d.schema) now;
          sound = w.sound;
          written = subst (λ t. EditWrites schema Enforced db (edit_of db table [] Chosen 0 given.0) (Ok t)) (sym (ap (λ (d : Database). d.trees) now ∙ trees)) chosen;
        },
      )

-- ---- rows that rise are in order

all_pass : (rows : List Row) → filter (λ r. true) rows ≡ rows
all_pass [] = refl
all_pass (r ∷ rows) = ap (λ xs. r ∷ xs) (all_pass rows)

abbrev by_number : Row → Row → Ordering
by_number a b = value_cmp (column a 0) (column b 0)

abbrev Rise : List Row → Type 0
Rise = IsAscending (λ a b. by_number a b ≡ Less)

stays_first : (x : Row) (rows : List Row) → AllByRecursion (λ y. by_number x y ≡ Less) rows → insert_sorted by_number x rows ≡ x ∷ rows
stays_first x [] above = refl
stays_first x (y ∷ rows) above = ap (λ o. cond (is_gt o) (y ∷ insert_sorted by_number x rows) (x ∷ y ∷ rows)) above.0

sorted_already : (rows : List Row) → Rise rows → sort_by by_number rows ≡ rows
sorted_already [] rises = refl
sorted_already (x ∷ rows) rises = ap (insert_sorted by_number x) (sorted_already rows rises.1) ∙ stays_first x rows rises.0

-- ---- and are put one after another

append_nil : (xs : List Row) → xs ++ [] ≡ xs
append_nil [] = refl
append_nil (x ∷ xs) = ap (λ l. x ∷ l) (append_nil xs)

one_more : (xs : List Row) (y : Row) (ys : List Row) → (xs ++ y ∷ []) ++ ys ≡ xs ++ y ∷ ys
one_more [] y ys = refl
one_more (x ∷ xs) y ys = ap (λ l. x ∷ l) (one_more xs y ys)

all_at : (P : Row → Type 0) (xs : List Row) (y : Row) (ys : List Row) → AllByRecursion P (xs ++ y ∷ ys) → P y
all_at P [] y ys all = all.0
all_at P (x ∷ xs) y ys all = all_at P xs y ys all.1

all_before : (xs : List Row) (y : Row) (ys : List Row) → Rise (xs ++ y ∷ ys) → AllByRecursion (λ x. by_number x y ≡ Less) xs
all_before [] y ys up = tt
all_before (x ∷ xs) y ys up = (all_at (λ z. by_number x z ≡ Less) xs y ys up.0, all_before xs y ys up.1)

put_last : (xs : List Row) (y : Row) → AllByRecursion (λ x. by_number x y ≡ Less) xs → put_row y xs ≡ xs ++ y ∷ []
put_last [] y before = refl
put_last (x ∷ xs) y before = ap (λ o. match_ordering o (x ∷ put_row y xs) (y ∷ xs) (y ∷ x ∷ xs)) before.0 ∙ ap (λ l. x ∷ l) (put_last xs y before.1)

put_rising : (news done : List Row) → Rise (done ++ news) → put_all done news ≡ done ++ news
put_rising [] done up = sym (append_nil done)
put_rising (n ∷ news) done up =
    ap (λ d. put_all d news) (put_last done n (all_before done n news up))
    ∙ put_rising news (done ++ n ∷ []) (subst Rise (sym (one_more done n news)) up)
    ∙ one_more done n news

-- rows that have numbers keep them
numbered_already : (rows news : List Row) → Ints news → numbered Chosen rows news ≡ news
numbered_already rows [] ints = refl
numbered_already rows (n ∷ news) ints =
    let plain : is_null (rowid n) ≡ false = ap is_null (key_is n ints.0) in
    rw plain (ap (λ l. n ∷ l) (numbered_already (put_row n rows) news ints.1))

-- ---- the rows of a table of entries, copied

-- the columns of a row
pub record Typed (row : Row) : Type 0 where
  pub id : is_of kinds.Integer (column row 0) ≡ true
  pub node : is_of kinds.Integer (column row 1) ≡ true
  pub protected : is_of kinds.Integer (column row 2) ≡ true
  pub place : is_of kinds.Integer (column row 3) ≡ true
  pub form : is_of kinds.Integer (column row 4) ≡ true
  pub principal : is_of kinds.Text (column row 5) ≡ true
  pub invert : is_of kinds.Integer (column row 6) ≡ true
  pub deny : is_of kinds.Integer (column row 7) ≡ true
  pub mask : is_of kinds.Integer (column row 8) ≡ true

pub typed_row : (row : Row) → are_typed None 0 ace_columns (drop 1 row) ≡ true → IsTrue (is_int (rowid row)) → Typed row
typed_row row types numbered =
    let at = λ (i : ℕ) (c : Column). typed_at None 0 ace_columns (drop 1 row) i c types in
    record {
      id = ap (is_of kinds.Integer) (key_is row numbered);
      node = ap (is_of kinds.Integer) (sym (past_first row 0)) ∙ at 0 _ refl refl refl;
      protected = ap (is_of kinds.Integer) (sym (past_first row 1)) ∙ at 1 _ refl refl refl;
      place = ap (is_of kinds.Integer) (sym (past_first row 2)) ∙ at 2 _ refl refl refl;
      form = ap (is_of kinds.Integer) (sym (past_first row 3)) ∙ at 3 _ refl refl refl;
      principal = ap (is_of kinds.Text) (sym (past_first row 4)) ∙ at 4 _ refl refl refl;
      invert = ap (is_of kinds.Integer) (sym (past_first row 5)) ∙ at 5 _ refl refl refl;
      deny = ap (is_of kinds.Integer) (sym (past_first row 6)) ∙ at 6 _ refl refl refl;
      mask = ap (is_of kinds.Integer) (sym (past_first row 7)) ∙ at 7 _ refl refl refl;
    }

map_map : {A B C : Type 0} (g : B → C) (f : A → B) (xs : List A) → map g (map f xs) ≡ map (λ x. g (f x)) xs
map_map g f [] = refl
map_map g f (x ∷ xs) = ap (λ l. g (f x) ∷ l) (map_map g f xs)

pub map_same : {A B : Type 0} (f g : A → B) (xs : List A) → AllByRecursion (λ x. f x ≡ g x) xs → map f xs ≡ map g xs
map_same f g [] all = refl
map_same f g (x ∷ xs) all = λ i. all.0 i ∷ map_same f g xs all.1 i

pub all_of : (P : Row → Type 0) (rows : List Row) → ((row : Row) → Has rows row → P row) → AllByRecursion P rows
all_of P [] h = tt
all_of P (r ∷ rows) h = (h r (inl refl), all_of P rows (λ row there. h row (inr there)))

module _ (mask : Row → Value) where
  ints_copied : (rows : List Row) → Ints rows → Ints (map (copied_row mask) rows)
  ints_copied [] ints = tt
  ints_copied (r ∷ rows) ints = (ints.0, ints_copied rows ints.1)

  module _ (old new : State) (schema : Schema) (sql : List ℕ) (at from : ℕ) (table : Table) (terms : List Term) (there : slice_get schema.tables at ≡ Some table) (uncounted : table.is_counted ≡ false)
      (unstamped : stamped table [] ≡ []) (bare : overlay old.now.trees [] from ≡ old.now.trees from) (is : command_of (understood schema sql) ≡ copy_command at from terms) (plain : IsPlain (understood schema sql)) (tables : HasTables schema old.now)
      (quiet : (news : List Row) → works schema Enforced 0 table.tree [] news ≡ []) (shaped : IsShaped TableShape (old.now.trees from))
      (each : (row : Row) → Has (old.now.trees from) row → cast_row table (shown_by [] terms row) ≡ copied_row mask row) where
    abbrev trees : Trees
    trees = old.now.trees

    abbrev copied : List Row
    copied = map (copied_row mask) (trees from)

    -- collations are for DISTINCT alone
    as_ordered : (rows : List Row) → IsAnswer (copy_query from terms) (overlay trees []) [] rows → IsAnswer (ordered_by from [] terms 0) (overlay trees []) [] rows
    as_ordered rows a = record { staged = a.staged; grouped = a.grouped; kept = a.kept; distinct = a.distinct; ordered = a.ordered; same = a.same; sorted = a.sorted; shown = a.shown }

    -- the rows that the query gives
    shown : (rows : List Row) → IsAnswer (copy_query from terms) (overlay trees []) [] rows → rows ≡ map (shown_by [] terms) (trees from)
    shown rows answer =
        let apart : IsAscending (λ a b. is_eq (by_number a b) ≡ false) (trees from) =
        ascending_weaker (λ a b. by_number a b ≡ Less) (λ a b. is_eq (by_number a b) ≡ false) (λ a b less. ap is_eq less) (trees from) shaped.0 in
        let passed : filter (λ r. true) (overlay trees [] from) ≡ trees from = ap (filter (λ r. true)) bare ∙ all_pass (trees from) in
        answers_in_order from [] terms 0 (overlay trees []) [] rows (as_ordered rows answer) (subst (IsAscending (λ a b. is_eq (by_number a b) ≡ false)) (sym passed) apart)
        ∙ ap (λ xs. map (shown_by [] terms) (sort_by by_number xs)) passed
        ∙ ap (map (shown_by [] terms)) (sorted_already (trees from) shaped.0)

    copied_ints : Ints copied
    copied_ints = ints_copied (trees from) shaped.1

    copied_rise : Rise copied
    copied_rise = ascending-map (λ a b. by_number a b ≡ Less) (copied_row mask) (trees from) shaped.0

    news_are : (rows : List Row) → rows ≡ map (shown_by [] terms) (trees from) → (edit_of trees table [] Chosen 0 rows).news ≡ copied
    news_are rows same =
        let given : map (λ s. cast_row table (drop 0 s)) rows ≡ copied =
        ap (map (λ s. cast_row table (drop 0 s))) same ∙ map_map (λ s. cast_row table (drop 0 s)) (shown_by [] terms) (trees from)
        ∙ map_same _ (copied_row mask) (trees from) (all_of _ (trees from) each) in
        ap (numbered Chosen (trees table.tree)) given ∙ numbered_already (trees table.tree) copied copied_ints

    pub copied_tables : trees table.tree ≡ [] → (count : ℕ) → Executes sql [] old new (Ok count)
        → HasTables schema new.now × (new.now.trees table.tree ≡ copied) × ((edit : Edit) × (edit.table ≡ table) × Applies schema Enforced trees edit new.now.trees)
    copied_tables empty count h =
        let it = inserts_answer old new schema sql at from table terms there uncounted unstamped is plain tables.schema count h in
        let edit : Edit = edit_of trees table [] Chosen 0 it.0 in
        let news : edit.news ≡ copied = news_are it.0 (shown it.0 it.1) in
        let applied = one_step schema Enforced trees new.now.trees edit (quiet edit.news) it.2.written in
        let entries : new.now.trees table.tree ≡ copied = applied.rows ∙ ap (put_all (trees table.tree)) news ∙ ap (λ rows. put_all rows copied) empty ∙ put_rising copied [] copied_rise in
        let shaped_after : IsShaped TableShape (new.now.trees table.tree) = subst (IsShaped TableShape) (sym entries) (copied_rise, copied_ints) in (
          record {
            schema = it.2.schema_is;
            rules = it.2.sound;
            rising = λ t listed. elim (apart_or t.tree table.tree) [
              | inl same ↦ subst (λ k. IsShaped TableShape (new.now.trees k)) (sym same) shaped_after
              | inr differs ↦ subst (IsShaped TableShape) (sym (all_has (λ u. u.tree ≢ table.tree → new.now.trees u.tree ≡ trees u.tree) schema.tables t applied.tables listed differs)) (tables.rising t listed)
            ];
          },
          entries,
          (edit, refl, applied),
        )

-- ---- the three copies

-- no row refers to an entry
works_copied : (news : List Row) → works book_schema Enforced 0 ace2_tree [] news ≡ []
unfolding same_name everything
works_copied news =
    elim (length news == 0) as (λ b. flat_map (λ child. filter_map (λ ref. work_by 0 ace2_tree [] child ref (deed_for Enforced b ref) (parent_key book_schema.tables ref)) child.references) book_schema.tables ≡ [])
    [ true ↦ refl | false ↦ refl ]

works_moved : (news : List Row) → works (schema_of Former) Enforced 0 ace_tree [] news ≡ []
unfolding same_name everything
works_moved news =
    elim (length news == 0) as (λ b. flat_map (λ child. filter_map (λ ref. work_by 0 ace_tree [] child ref (deed_for Enforced b ref) (parent_key (schema_of Former).tables ref)) child.references) (schema_of Former).tables ≡ [])
    [ true ↦ refl | false ↦ refl ]

mask_told : (v : Value) → IsTrue (is_first_mask v) → (m : ℕ) × (m < 256) × (v ≡ Int (pos m))
mask_told Null h = absurd (true≢false (sym h))
mask_told (Int (pos m)) h = (m, ltb-true m 256 h, refl)
mask_told (Int (negsuc m)) h = absurd (true≢false (sym h))
mask_told (Real x) h = absurd (true≢false (sym h))
mask_told (Text t) h = absurd (true≢false (sym h))
mask_told (Blob b) h = absurd (true≢false (sym h))

widened_copy : (row : Row) → Typed row → HasFirstMask row → cast_row ace2_table (shown_by [] copy_terms row) ≡ widened_row row
widened_copy row typed first =
    let m = mask_told (column row 8) first in
    let mask = mask_widened m.0 m.1 in
    rw (m.2, mask, cast_integer (column row 0) typed.id, cast_integer (column row 1) typed.node, cast_integer (column row 2) typed.protected, cast_integer (column row 3) typed.place, cast_integer (column row 4) typed.form, cast_text (column row 5) typed.principal, cast_integer (column row 6) typed.invert, cast_integer (column row 7) typed.deny, cast_integer (Int (pos (m.0 + 256 * (m.0 % 2)))) refl) refl

same_copy : (row : Row) → Typed row → cast_row ace_table (shown_by [] same_terms row) ≡ copied_row ace_mask row
same_copy row typed =
    rw (cast_integer (column row 0) typed.id, cast_integer (column row 1) typed.node, cast_integer (column row 2) typed.protected, cast_integer (column row 3) typed.place, cast_integer (column row 4) typed.form, cast_text (column row 5) typed.principal, cast_integer (column row 6) typed.invert, cast_integer (column row 7) typed.deny, cast_integer (column row 8) typed.mask) refl

-- ---- a row that has all columns is copied as it is

typed_width : (key : Option ℕ) (at : ℕ) (cs : List Column) (vs : Row) → are_typed key at cs vs ≡ true → length vs ≤ length cs
typed_width key at [] [] h = omega arith
typed_width key at [] (v ∷ vs) h = absurd (true≢false (sym h))
typed_width key at (c ∷ cs) [] h = omega arith
typed_width key at (c ∷ cs) (v ∷ vs) h = let more : length vs ≤ length cs = typed_width key (at + 1) cs vs (and_parts _ (are_typed key (at + 1) cs vs) h).1 in omega (arith, more)

whole_row : (row : Row) → length (drop 1 row) ≤ 8 → not (is_null (column row 8)) ≡ true → copied_row ace_mask row ≡ row
whole_row [] few there = absurd (true≢false (sym there))
whole_row (a ∷ []) few there = absurd (true≢false (sym there))
whole_row (a ∷ b ∷ []) few there = absurd (true≢false (sym there))
whole_row (a ∷ b ∷ c ∷ []) few there = absurd (true≢false (sym there))
whole_row (a ∷ b ∷ c ∷ d ∷ []) few there = absurd (true≢false (sym there))
whole_row (a ∷ b ∷ c ∷ d ∷ e ∷ []) few there = absurd (true≢false (sym there))
whole_row (a ∷ b ∷ c ∷ d ∷ e ∷ f ∷ []) few there = absurd (true≢false (sym there))
whole_row (a ∷ b ∷ c ∷ d ∷ e ∷ f ∷ g ∷ []) few there = absurd (true≢false (sym there))
whole_row (a ∷ b ∷ c ∷ d ∷ e ∷ f ∷ g ∷ h ∷ []) few there = absurd (true≢false (sym there))
whole_row (a ∷ b ∷ c ∷ d ∷ e ∷ f ∷ g ∷ h ∷ m ∷ []) few there = refl
whole_row (a ∷ b ∷ c ∷ d ∷ e ∷ f ∷ g ∷ h ∷ m ∷ n ∷ row) few there = absurd (omega (arith, few))

mask_there : (row : Row) → are_present None 0 ace_columns row ≡ true → not (is_null (column row 8)) ≡ true
mask_there row h =
    let node = and_parts (not (is_null (column row 1))) _ h in
    let protected = and_parts (not (is_null (column row 2))) _ node.1 in
    let place = and_parts (not (is_null (column row 3))) _ protected.1 in
    let form = and_parts (not (is_null (column row 4))) _ place.1 in
    let invert = and_parts (not (is_null (column row 6))) _ form.1 in
    let deny = and_parts (not (is_null (column row 7))) _ invert.1 in
    (and_parts (not (is_null (column row 8))) _ deny.1).0

same_rows : (rows : List Row) → AllByRecursion (λ row. copied_row ace_mask row ≡ row) rows → map (copied_row ace_mask) rows ≡ rows
same_rows [] all = refl
same_rows (r ∷ rows) all = λ i. all.0 i ∷ same_rows rows all.1 i

-- a row of a table of entries
record Entry (row : Row) : Type 0 where
  types : are_typed None 0 ace_columns (drop 1 row) ≡ true
  present : are_present None 0 ace_columns row ≡ true
  numbered : IsTrue (is_int (rowid row))

entry_typed : (row : Row) → Entry row → Typed row
entry_typed row e = typed_row row e.types e.numbered

entry_same : (row : Row) → Entry row → copied_row ace_mask row ≡ row
entry_same row e = whole_row row (typed_width None 0 ace_columns (drop 1 row) e.types) (mask_there row e.present)

-- ---- the copies

module _ (old new : State) (tabled : IsTabled old.now) where
  book_sound : IsSound book_schema old.now.trees
  book_sound = subst (λ s. IsSound s old.now.trees) tabled.schema tabled.rules

  book_shaped : IsShaped TableShape (old.now.trees ace_tree)
  book_shaped = tabled.rising ace_table (inr (inl refl))

  book_entry : (row : Row) → Has (old.now.trees ace_tree) row → Entry row
  book_entry row there = record {
    types = (and_parts _ _ (all_has _ (old.now.trees ace_tree) row (book_sound.obeys.rules Datatype).1.0 there)).0;
    present = all_has _ (old.now.trees ace_tree) row (book_sound.obeys.rules NotNull).1.0 there;
    numbered = all_has _ (old.now.trees ace_tree) row book_shaped.1 there;
  }

  pub widened_tables : AllByRecursion HasFirstMask (old.now.trees ace_tree) → old.now.trees ace2_tree ≡ [] → (count : ℕ) → Executes copy_text [] old new (Ok count)
      → IsTabled new.now × (rows_of new.now.trees ≡ record (rows_of old.now.trees) { entries = map widened_row (old.now.trees ace_tree) })
  widened_tables masks empty count h =
      let done = copied_tables widened_mask old new book_schema copy_text 5 ace_tree ace2_table copy_terms refl refl refl refl copy_is copy_plain tabled works_copied book_shaped
      (λ row there. widened_copy row (entry_typed row (book_entry row there)) (all_has HasFirstMask (old.now.trees ace_tree) row masks there)) empty count h in
      (done.0, entries_changed old.now.trees new.now.trees done.2.0 done.2.2 (ap (λ (t : Table). t.tree) done.2.1) ∙ ap (λ e. record (rows_of old.now.trees) { entries = e }) done.1)

  pub back_tables : old.now.trees ace2_tree ≡ [] → (count : ℕ) → Executes back_text [] old new (Ok count)
      → IsTabled new.now × (rows_of new.now.trees ≡ record (rows_of old.now.trees) { entries = old.now.trees ace_tree })
  back_tables empty count h =
      let done = copied_tables ace_mask old new book_schema back_text 5 ace_tree ace2_table same_terms refl refl refl refl back_is back_plain tabled works_copied book_shaped
      (λ row there. same_copy row (entry_typed row (book_entry row there))) empty count h in
      let same = same_rows (old.now.trees ace_tree) (all_of _ (old.now.trees ace_tree) (λ row there. entry_same row (book_entry row there))) in
      (done.0, entries_changed old.now.trees new.now.trees done.2.0 done.2.2 (ap (λ (t : Table). t.tree) done.2.1) ∙ ap (λ e. record (rows_of old.now.trees) { entries = e }) (done.1 ∙ same))

module _ (old new : State) (tables : HasTables (schema_of Former) old.now) where
  former_sound : IsSound (schema_of Former) old.now.trees
  former_sound = subst (λ s. IsSound s old.now.trees) tables.schema tables.rules

  former_shaped : IsShaped TableShape (old.now.trees former_tree)
  former_shaped = tables.rising former_table (inr (inr (inr (inr (inr (inl refl))))))

  former_entry : (row : Row) → Has (old.now.trees former_tree) row → Entry row
  former_entry row there = record {
    types = (and_parts _ _ (all_has _ (old.now.trees former_tree) row (former_sound.obeys.rules Datatype).1.1.1.1.1.0 there)).0;
    present = all_has _ (old.now.trees former_tree) row (former_sound.obeys.rules NotNull).1.1.1.1.1.0 there;
    numbered = all_has _ (old.now.trees former_tree) row former_shaped.1 there;
  }

  -- `ace` has the entries, and all other tables have what they had
  pub moved_tables : old.now.trees ace_tree ≡ [] → (count : ℕ) → Executes move_text [] old new (Ok count)
      → HasTables (schema_of Former) new.now × (new.now.trees ace_tree ≡ old.now.trees former_tree) × AllByRecursion (λ t. t.tree ≢ ace_tree → new.now.trees t.tree ≡ old.now.trees t.tree) (schema_of Former).tables
  moved_tables empty count h =
      let done = copied_tables ace_mask old new (schema_of Former) move_text 1 former_tree ace_table same_terms refl refl refl refl move_is move_plain tables works_moved former_shaped
      (λ row there. same_copy row (entry_typed row (former_entry row there))) empty count h in
      let same = same_rows (old.now.trees former_tree) (all_of _ (old.now.trees former_tree) (λ row there. entry_same row (former_entry row there))) in
      (done.0, done.1 ∙ same, subst (λ (table : Table). AllByRecursion (λ t. t.tree ≢ table.tree → new.now.trees t.tree ≡ old.now.trees t.tree) (schema_of Former).tables) done.2.1 done.2.2.tables)

pub copies : (old new : State) (count : ℕ) → ExecutesInside 0 copy_text [] old new (Ok count) → Copies old new
copies old new count h = record {
  inside = h.1.mode;
  was_open = h.1.was_open;
  is_open = h.1.is_open;
  made = λ tabled empty masks. widened_tables old new tabled masks empty count h.0;
}

pub copies_back : (old new : State) (count : ℕ) → ExecutesInside 0 back_text [] old new (Ok count) → CopiesBack old new
copies_back old new count h = record {
  inside = h.1.mode;
  was_open = h.1.was_open;
  is_open = h.1.is_open;
  made = λ tabled empty. back_tables old new tabled empty count h.0;
}

pub moves : (old new : State) (count : ℕ) → ExecutesInside 0 move_text [] old new (Ok count) → Moves old new
moves old new count h = record {
  inside = h.1.mode;
  was_open = h.1.was_open;
  is_open = h.1.is_open;
  made = λ tables empty. moved_tables old new tables empty count h.0;
}
