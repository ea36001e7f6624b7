-- What derives from other tables is taken away: the indexes that only make look-ups fast, and then a table `reach` behind the others,
-- where there is one.
use Rattle.book_tables_schema.proofs.Common.{book_schema, ◌≡◌, false, List, [], ◌∷◌, codes, refl, sym, subst, ◌∙◌, arith, Database, Schema, State}
use Rattle.std.proofs.Common.{inl, inr, ℕ, Bool, true, ◌++◌, ◌≤◌, ◌<◌, is_some, if◌then◌else◌, filter, slice_get, Option, Some, None, Result, Ok, ap, not, ◌==◌, ◌&&◌}
use Rattle.std.proofs.Common.{map}
use Rattle.std.specs.Bool.{MatchBool}
use Rattle.std.specs.Char.{to_ascii_lowercase}
use Rattle.std.specs.Cmp.Lexicographic.{slice_cmp}
use Rattle.std.specs.Ordering.{nat_cmp, is_eq}
use Rattle.std.specs.List.{AllByRecursion, list_any}
use Rattle.sqlite.specs.Command.{Command}
use Rattle.sqlite.specs.Command.TheVariants.{DropTable, Nothing}
use Rattle.sqlite.specs.Does.{AtPlace, Drops, Tally, UncountsIn, is_acted_on}
use Rattle.sqlite.specs.Effect.{IsDatabase}
use Rattle.sqlite.specs.Listing.{understood, if_select, listing_schema, misses_table}
use Rattle.sqlite.specs.Rows.{Task, sequence}
use Rattle.sqlite.specs.State.{Executes, mode_of}
use Rattle.sqlite.specs.Table.{Table}
use Rattle.sqlite.specs.Tree.{Trees}
use Rattle.sqlite.proofs.Callers.{IsPlain, command_of, runs_as}
use Rattle.sqlite_catalog.specs.Change.{KeepsRows, without_table}
use Rattle.sqlite_catalog.proofs.SoundLemmas.{lowered}
use Rattle.sqlite_resolve.specs.Compile.{compiled, dropped, first, with_command}
use Rattle.sqlite_resolve.specs.Lowering.{and_then}
use Rattle.sqlite_resolve.specs.declared.compiled.Compiled.{Compiled}
use Rattle.sqlite_resolve.specs.declared.error.CompileError.{CompileError}
use Rattle.sqlite_resolve.specs.declared.error.CompileError.TheVariants.{NoSuchTable}
use Rattle.sqlite_rules.specs.Action.{deed_for}
use Rattle.sqlite_rules.specs.Lists.{Has}
use Rattle.sqlite_schema.specs.Names.{same_name, table_named}
use Rattle.sqlite_schema.specs.declared.schema.Index.{Index}
use Rattle.sqlite_schema.specs.declared.schema.Keys.TheVariants.{Enforced}
use Rattle.sqlite_schema.specs.declared.schema.Reference.{Reference}
use Rattle.sqlite_tied.specs.Compute.{everything}
use Rattle.sqlite_trees.specs.View.{IsShaped}
use Rattle.sqlite_trees.specs.declared.store.Shape.TheVariants.{Table as TableShape}
use Rattle.std.proofs.lemmas.Bool.{eq-eqb, ne_eqb}
use Rattle.book_tables_rows.specs.Schema.{ace2_tree, reach_key, reach_table}
use Rattle.book_tables_rows.proofs.Statements.{went, same_value}
use Rattle.book_tables_schema.specs.Founding.{Ran}
use Rattle.book_tables_schema.specs.FormerOrder.{DropsFormer, drop_former}
use Rattle.book_tables_schema.specs.Layout.{former_key, former_table, former_tree, keys_of, tables_of}
use Rattle.book_tables_schema.specs.OtherReach.{DropsDerived, HasReach, IsBareBeside, IsBeside, IsReach, IsToOther, drop_reach, free_tree, schema_of}
use Rattle.book_tables_schema.specs.OwnIndexes.{DropsIndexes, bared}
use Rattle.book_tables_schema.specs.Tabled.{HasTables}
use Rattle.book_tables_schema.specs.declared.layout.Generation.{Generation}
use Rattle.book_tables_schema.specs.declared.layout.Generation.TheVariants.{First, Former, Second}
use Rattle.book_tables_schema.proofs.DroppedIndexes.{bared_leaves, plain_schema, rows_same}
use Rattle.book_tables_schema.proofs.RisingRows.{tables_as}
use Rattle.book_tables_schema.proofs.Tabling.{kept_front, kept_then, still_rising}

-- ---- what the text means, where the table of its name stands in this place or is not there

abbrev command_at : Option ℕ → Command
command_at None = Nothing
command_at (Some at) = DropTable at

compiled_with : Option ℕ → Result Compiled CompileError
compiled_with o = and_then (first drop_reach) (λ p. and_then (and_then (and_then (dropped DropTable NoSuchTable true o) (λ c. Ok (c, None))) (λ found. Ok ([], found))) (λ plan. Ok (with_command p plan)))

understood_with : Option ℕ → Result Compiled CompileError
understood_with o = if misses_table (compiled_with o) then if_select (compiled listing_schema drop_reach) else compiled_with o

reach_so : (tables : List Table) (indexes : List Index) → understood (plain_schema tables indexes) drop_reach ≡ understood_with (table_named (plain_schema tables indexes) (codes "reach"))
unfolding understood everything compiled_with understood_with
reach_so tables indexes = refl

command_with : (o : Option ℕ) → command_of (understood_with o) ≡ command_at o
unfolding understood everything compiled_with understood_with
command_with None = refl
command_with (Some at) = refl

plain_with : (o : Option ℕ) → IsPlain (understood_with o)
unfolding understood everything compiled_with understood_with
plain_with None = (refl, refl)
plain_with (Some at) = (refl, refl)

command_is : (tables : List Table) (indexes : List Index) (o : Option ℕ) → table_named (plain_schema tables indexes) (codes "reach") ≡ o → command_of (understood (plain_schema tables indexes) drop_reach) ≡ command_at o
command_is tables indexes o is = ap command_of (reach_so tables indexes) ∙ command_with (table_named (plain_schema tables indexes) (codes "reach")) ∙ ap command_at is

plain_is : (tables : List Table) (indexes : List Index) → IsPlain (understood (plain_schema tables indexes) drop_reach)
plain_is tables indexes = subst IsPlain (sym (reach_so tables indexes)) (plain_with (table_named (plain_schema tables indexes) (codes "reach")))

-- ---- where it stands

abbrev with_last : Generation → Table → List Index → Schema
with_last generation last more = plain_schema (tables_of generation ++ last ∷ []) (keys_of generation ++ more)

abbrev place_of : Generation → ℕ
place_of First = 5
place_of Former = 6
place_of Second = 6

named_there : (generation : Generation) (last : Table) (more : List Index) → same_name last.name (codes "reach") ≡ true → table_named (with_last generation last more) (codes "reach") ≡ Some (place_of generation)
unfolding same_name everything
named_there First last more named = rw (named) refl
named_there Former last more named = rw (named) refl
named_there Second last more named = rw (named) refl

last_there : (generation : Generation) (last : Table) (more : List Index) → slice_get (with_last generation last more).tables (place_of generation) ≡ Some last
last_there First last more = refl
last_there Former last more = refl
last_there Second last more = refl

none_there : (generation : Generation) → table_named (schema_of generation) (codes "reach") ≡ None
unfolding same_name everything
none_there First = refl
none_there Former = refl
none_there Second = refl

-- ---- no foreign key acts

-- a name that differs from `reach` in the case of its letters alone is the same names as that
alike : (name other : List ℕ) → same_name name (codes "reach") ≡ true → same_name name other ≡ same_name (codes "reach") other
unfolding same_name
alike name other named = ap (λ xs. is_eq (slice_cmp nat_cmp xs (map to_ascii_lowercase other))) ((lowered name (codes "reach")).0 named)

apart_names : same_name (codes "reach") (codes "node") ≡ false
unfolding same_name everything
apart_names = refl

own_act : (name : List ℕ) (refs : List Reference) → same_name name (codes "reach") ≡ true → AllByRecursion IsToOther refs → list_any (λ ref. same_name name ref.parent && is_some (deed_for Enforced true ref)) refs ≡ false
own_act name [] named apart = refl
own_act name (r ∷ refs) named apart = rw (alike name r.parent named ∙ apart.0, own_act name refs named apart.1) refl

to_nodes : (name : List ℕ) → same_name name (codes "reach") ≡ true → same_name name (codes "node") ≡ false
to_nodes name named = alike name (codes "node") named ∙ apart_names

none_act : (generation : Generation) (last : Table) (more : List Index) → same_name last.name (codes "reach") ≡ true → AllByRecursion IsToOther last.references → is_acted_on (with_last generation last more) Enforced last ≡ false
unfolding everything
none_act First last more named apart = rw (to_nodes last.name named, own_act last.name last.references named apart) refl
none_act Former last more named apart = rw (to_nodes last.name named, own_act last.name last.references named apart) refl
none_act Second last more named apart = rw (to_nodes last.name named, own_act last.name last.references named apart) refl

-- ---- what is left of the schema

none_of : (tree : ℕ) (more : List Index) → AllByRecursion (λ i. i.table ≡ tree) more → filter (λ i. not (i.table == tree)) more ≡ []
none_of tree [] its = refl
none_of tree (i ∷ more) its = rw (eq-eqb i.table tree its.0, none_of tree more its.1) refl

left_is : (generation : Generation) (last : Table) (more : List Index) → free_tree generation ≤ last.tree → AllByRecursion (λ i. i.table ≡ last.tree) more
    → without_table (with_last generation last more) last.tree ≡ schema_of generation
left_is First last more behind its =
    let apart : (n : ℕ) → n < 9 → (n == last.tree) ≡ false = λ n less. ne_eqb n last.tree (λ is. omega (arith, less, behind, is)) in
    rw (apart 0 (omega (arith)), apart 2 (omega (arith)), apart 4 (omega (arith)), apart 6 (omega (arith)), apart 8 (omega (arith)), eq-eqb last.tree last.tree refl, none_of last.tree more its) refl
left_is Former last more behind its =
    let apart : (n : ℕ) → n < 15 → (n == last.tree) ≡ false = λ n less. ne_eqb n last.tree (λ is. omega (arith, less, behind, is)) in
    rw (apart 0 (omega (arith)), apart 2 (omega (arith)), apart 4 (omega (arith)), apart 6 (omega (arith)), apart 8 (omega (arith)), apart former_tree (omega (arith)), eq-eqb last.tree last.tree refl, none_of last.tree more its) refl
left_is Second last more behind its =
    let apart : (n : ℕ) → n < 11 → (n == last.tree) ≡ false = λ n less. ne_eqb n last.tree (λ is. omega (arith, less, behind, is)) in
    rw (apart 0 (omega (arith)), apart 2 (omega (arith)), apart 4 (omega (arith)), apart 6 (omega (arith)), apart 8 (omega (arith)), apart ace2_tree (omega (arith)), eq-eqb last.tree last.tree refl, none_of last.tree more its) refl

-- ---- the statement

otherwise : (b : Bool) (X Y : Type 0) → b ≡ false → MatchBool b X Y → Y
otherwise true X Y is h = absurd (let e = is in cc)
otherwise false X Y is h = h

module _ (old new : State) (generation : Generation) (last : Table) (more : List Index) (has : old.now.schema ≡ with_last generation last more) (behind : free_tree generation ≤ last.tree) (uncounted : last.is_counted ≡ false)
    (idle : is_acted_on (with_last generation last more) Enforced last ≡ false) (indexes : AllByRecursion (λ i. i.table ≡ last.tree) more)
    (sql : List ℕ) (command : command_of (understood (with_last generation last more) sql) ≡ DropTable (place_of generation)) (plain : IsPlain (understood (with_last generation last more) sql)) (count : ℕ) where
  abbrev task : Task
  task = record { limit = old.step_limit; keys = Enforced; schema = with_last generation last more; table = last; params = [] }

  drops : Executes sql [] old new (Ok count) → (new.now.schema ≡ schema_of generation) × IsDatabase new.now × KeepsRows (tables_of generation) old.now.trees new.now.trees
  drops h =
      let at = place_of generation in
      let w = runs_as sql [] old new (with_last generation last more) has (DropTable at) command plain count h in
      let out = Ok (w.tally, new.now) in
      let here = subst (λ s. AtPlace (λ table. Drops (record task { schema = s; table = table }) (mode_of old) old.now.trees) (slice_get s.tables at) out) has w.changed in
      let done = subst (λ o. AtPlace (λ table. Drops (record task { table = table }) (mode_of old) old.now.trees) o out) (last_there generation last more) here in
      let emptied = went done in
      let same : emptied.0 ≡ old.now.trees = same_value (otherwise (is_acted_on (with_last generation last more) Enforced last) _ _ idle emptied.1) in
      let uncounts = went emptied.2 in
      let again : uncounts.0 ≡ emptied.0 = same_value (subst (λ b. UncountsIn task emptied.0 (if b then sequence (with_last generation last more) else None) (Ok uncounts.0)) uncounted uncounts.1) in
      let tested = went uncounts.2 in
      let left = went tested.2 in
      let now : new.now ≡ left.0 = ap (λ (p : Tally × Database). p.1) (same_value left.2) in
      let rest = left_is generation last more behind indexes in (
        ap (λ (d : Database). d.schema) now ∙ left.1.0 ∙ rest,
        w.sound,
        subst (λ (d : Database). KeepsRows (tables_of generation) old.now.trees d.trees) (sym now)
            (subst (λ t. KeepsRows (tables_of generation) t left.0.trees) (again ∙ same) (subst (λ (s : Schema). KeepsRows s.tables uncounts.0 left.0.trees) rest left.1.1)),
      )

drops_reach : (old new : State) (generation : Generation) (last : Table) (more : List Index) → old.now.schema ≡ with_last generation last more → IsReach generation last → AllByRecursion (λ i. i.table ≡ last.tree) more
    → Ran drop_reach old new → (new.now.schema ≡ schema_of generation) × IsDatabase new.now × KeepsRows (tables_of generation) old.now.trees new.now.trees
drops_reach old new generation last more has its indexes ran =
    let tables = tables_of generation ++ last ∷ [] in
    let keys = keys_of generation ++ more in
    drops old new generation last more has its.behind its.uncounted (none_act generation last more its.named its.apart) indexes drop_reach
    (command_is tables keys (Some (place_of generation)) (named_there generation last more its.named)) (plain_is tables keys) ran.0 ran.1.0

-- where there is none
stayed : (old new : State) (generation : Generation) → old.now.schema ≡ schema_of generation → (count : ℕ) → Executes drop_reach [] old new (Ok count) → new.now ≡ old.now
stayed old new generation has count h =
    (runs_as drop_reach [] old new (schema_of generation) has Nothing (command_is (tables_of generation) (keys_of generation) None (none_there generation)) (plain_is (tables_of generation) (keys_of generation)) count h).0.0.now_is

in_front : (front : List Table) (last t : Table) → Has front t → Has (front ++ last ∷ []) t
in_front [] last t there = absurd there
in_front (u ∷ front) last t (inl is) = inl is
in_front (u ∷ front) last t (inr there) = inr (in_front front last t there)

-- a store without its own indexes has the tables of its generation
bare_tables : (generation : Generation) (schema : Schema) → IsBareBeside generation schema → (t : Table) → Has (tables_of generation) t → Has schema.tables t
bare_tables generation schema (inl is) t there = subst (λ (s : Schema). Has s.tables t) (sym is) there
bare_tables generation schema (inr has) t there = subst (λ ts. Has ts t) (sym has.there.are) (in_front (tables_of generation) has.there.last t there)

-- so has it with them, and the rows of these rise
pub others_rise : (generation : Generation) (db : Database) → IsBeside generation db.schema → HasTables db.schema db → (t : Table) → Has (tables_of generation) t → IsShaped TableShape (db.trees t.tree)
others_rise generation db beside tables t there = tables.rising t (subst (λ ts. Has ts t) (bared_leaves.tables db.schema) (bare_tables generation (bared db.schema) beside t there))

-- it has no view
no_view : (generation : Generation) (schema : Schema) → IsBareBeside generation schema → schema.views ≡ []
no_view generation schema (inl is) = ap (λ (s : Schema). s.views) is
no_view generation schema (inr has) = has.views

-- what stays of all tables stays of those of the generation
kept_of : (generation : Generation) (schema : Schema) (a b : Trees) → IsBareBeside generation schema → KeepsRows schema.tables a b → KeepsRows (tables_of generation) a b
kept_of generation schema a b (inl is) kept = subst (λ (s : Schema). KeepsRows s.tables a b) is kept
kept_of generation schema a b (inr has) kept = (kept_front a b (tables_of generation) has.there.last (subst (λ ts. KeepsRows ts a b) has.there.are kept)).0

-- the text, under a schema without the indexes of a store
bare_dropped : (generation : Generation) (old new : State) → IsBareBeside generation old.now.schema → IsDatabase old.now → ((t : Table) → Has (tables_of generation) t → IsShaped TableShape (old.now.trees t.tree)) → Ran drop_reach old new
    → HasTables (schema_of generation) new.now × KeepsRows (tables_of generation) old.now.trees new.now.trees
bare_dropped generation old new (inl is) rules rising ran =
    let same : new.now ≡ old.now = stayed old new generation is ran.0 ran.1.0 in
    let kept = rows_same (tables_of generation) old.now.trees new.now.trees (ap (λ (db : Database). db.trees) (sym same)) in
    (record { schema = ap (λ (db : Database). db.schema) same ∙ is; rules = subst IsDatabase (sym same) rules; rising = still_rising old.now.trees new.now.trees (tables_of generation) rising kept }, kept)
bare_dropped generation old new (inr has) rules rising ran =
    let there = has.there in
    let it = there.others in
    let schema : old.now.schema ≡ with_last generation there.last it.more = λ i. record { tables = there.are i; indexes = it.are i; views = has.views i } in
    let done = drops_reach old new generation there.last it.more schema there.its it.its ran in
    (record { schema = done.0; rules = done.1; rising = still_rising old.now.trees new.now.trees (tables_of generation) rising done.2 }, done.2)

pub drops_derived : (old mid new : State) → DropsIndexes bared old mid → Ran drop_reach mid new → DropsDerived old new
drops_derived old mid new drops ran = record {
  inside = ran.1.1.mode;
  was_open = drops.was_open;
  is_open = ran.1.1.is_open;
  made = λ generation beside tables.
      let left = drops.made (sym (bared_leaves.views old.now.schema) ∙ no_view generation (bared old.now.schema) beside) tables.rules in
      let bare : IsBareBeside generation mid.now.schema = subst (IsBareBeside generation) (sym left.0) beside in
      let kept = kept_of generation (bared old.now.schema) old.now.trees mid.now.trees beside (subst (λ ts. KeepsRows ts old.now.trees mid.now.trees) (sym (bared_leaves.tables old.now.schema)) left.2) in
      let rising = still_rising old.now.trees mid.now.trees (tables_of generation) (others_rise generation old.now beside tables) kept in
      let done = bare_dropped generation mid new bare left.1 rising ran in
      (done.0, kept_then old.now.trees mid.now.trees new.now.trees (tables_of generation) kept done.1);
}

-- ---- the table of a store is one of any columns

to_others : AllByRecursion IsToOther reach_table.references
unfolding same_name everything
to_others = (refl, (refl, tt))

reach_named : same_name reach_table.name (codes "reach") ≡ true
unfolding same_name everything
reach_named = refl

bared_tables : (bared book_schema).tables ≡ tables_of Second ++ reach_table ∷ []
unfolding everything
bared_tables = refl

bared_indexes : (bared book_schema).indexes ≡ keys_of Second ++ reach_key ∷ []
unfolding everything
bared_indexes = refl

bared_views : (bared book_schema).views ≡ []
unfolding everything
bared_views = refl

has_book : HasReach Second (bared book_schema)
has_book = record {
  there = record {
    last = reach_table;
    are = bared_tables;
    its = record { named = reach_named; behind = omega (arith); uncounted = refl; apart = to_others };
    others = record { more = reach_key ∷ []; are = bared_indexes; its = (refl, tt) };
  };
  views = bared_views;
}

pub book_beside : (schema : Schema) → schema ≡ book_schema → IsBeside Second schema
book_beside schema is = inr (subst (λ s. HasReach Second (bared s)) (sym is) has_book)

bared_already : (generation : Generation) → bared (schema_of generation) ≡ schema_of generation
unfolding everything
bared_already First = refl
bared_already Former = refl
bared_already Second = refl

pub plain_beside : (generation : Generation) (schema : Schema) → schema ≡ schema_of generation → IsBeside generation schema
plain_beside generation schema is = inl (ap bared is ∙ bared_already generation)

-- ---- the table of entries of the former order

former_is : command_of (understood (schema_of Former) drop_former) ≡ DropTable 5
unfolding understood everything
former_is = refl

former_plain : IsPlain (understood (schema_of Former) drop_former)
unfolding understood everything
former_plain = (refl, refl)

former_idle : is_acted_on (schema_of Former) Enforced former_table ≡ false
unfolding same_name everything
former_idle = refl

pub drops_former : (old new : State) → Ran drop_former old new → DropsFormer old new
drops_former old new ran = record {
  inside = ran.1.1.mode;
  was_open = ran.1.1.was_open;
  is_open = ran.1.1.is_open;
  made = λ tables.
      let done = drops old new First former_table (former_key ∷ []) tables.schema (omega (arith)) refl former_idle (refl, tt) drop_former former_is former_plain ran.0 ran.1.0 in
      let rising = λ (t : Table) (there : Has (tables_of First) t). tables.rising t (in_front (tables_of First) former_table t there) in
      (record { schema = done.0; rules = done.1; rising = still_rising old.now.trees new.now.trees (tables_of First) rising done.2 }, done.2);
}
