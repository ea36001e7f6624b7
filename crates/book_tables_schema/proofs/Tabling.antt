-- What the texts that make tables and indexes leave.
use Rattle.book_tables_schema.proofs.Common.{◌≡◌, false, List, [], ◌∷◌, codes, refl, sym, subst, ◌∙◌, Database, Schema, State, Extends, no_schema, with_all}
use Rattle.std.proofs.Common.{inl, inr, ℕ, ◌++◌, slice_get, Some, None, Ok, ap}
use Rattle.std.specs.List.{AllByRecursion}
use Rattle.sqlite.specs.Command.TheVariants.{CreateIndex}
use Rattle.sqlite.specs.Compile.{table_defined_by, index_defined_by}
use Rattle.sqlite.specs.Does.{Tally, AtPlace, Defines, MakesIndex, lacks_sequence}
use Rattle.sqlite.specs.Listing.{understood}
use Rattle.sqlite.specs.State.{Executes, Writes, mode_of}
use Rattle.sqlite.specs.Table.{Table}
use Rattle.sqlite.specs.Tree.{Trees}
use Rattle.sqlite.proofs.Callers.{runs_as}
use Rattle.sqlite_catalog.specs.Change.{created, indexed, next_tree, KeepsRows}
use Rattle.sqlite_rules.specs.Lists.{Has}
use Rattle.sqlite_schema.specs.declared.schema.Index.{Index}
use Rattle.sqlite_trees.specs.View.{IsShaped}
use Rattle.sqlite_trees.specs.declared.store.Shape.TheVariants.{Table as TableShape}
use Rattle.sqlite_tied.specs.Compute.{everything}
use Rattle.book_tables_rows.proofs.Creating.{creates}
use Rattle.book_tables_rows.proofs.Meanings as meaning
use Rattle.book_tables_rows.proofs.Meanings.{MakesTable}
use Rattle.book_tables_rows.proofs.Statements.{went, same_value}
use Rattle.book_tables_rows.specs.Schema.{node_table, ace_table, member_table, gone_table, meta_table, ace2_table, reach_table, first_schema, base_schema, book_schema, plain_index, ace2_tree, reach_tree}
use Rattle.book_tables_rows.specs.Texts as text
use Rattle.book_tables_rows.proofs.NodeDeletes.{all_append}
use Rattle.book_tables_schema.specs.Founding.{GetsDerived, Indexes, Renews, Ran, with_node, with_ace, with_member, with_gone, with_meta, with_ace2, with_reach, with_parent, with_owner, with_principal, with_members, with_entries, with_removed}
use Rattle.book_tables_schema.specs.Tabled.{HasTables}

still_empty : (old new : Trees) (tables : List Table) → AllByRecursion (λ t. old t.tree ≡ []) tables → KeepsRows tables old new → AllByRecursion (λ t. new t.tree ≡ []) tables
still_empty old new [] empty kept = tt
still_empty old new (t ∷ tables) empty kept = (kept.0 ∙ empty.0, still_empty old new tables empty.1 kept.1)

pub kept_then : (a b c : Trees) (tables : List Table) → KeepsRows tables a b → KeepsRows tables b c → KeepsRows tables a c
kept_then a b c [] first second = tt
kept_then a b c (t ∷ tables) first second = (second.0 ∙ first.0, kept_then a b c tables first.1 second.1)

pub extends_then : (a b c : State) (s t u : Schema) → Extends a b s t → Extends b c t u → Extends a c s u
extends_then a b c s t u first second =
    record { inside = second.inside; was_open = first.was_open; is_open = second.is_open; bare = λ bare. second.bare (first.bare bare).0 }

-- ---- a table more

pub adds_table : (old new : State) (schema : Schema) (sql : List ℕ) (table : Table) → MakesTable schema sql → table_defined_by sql ≡ Ok table → lacks_sequence (created schema table) ≡ false → Ran sql old new
    → Extends old new schema (created schema table)
adds_table old new schema sql table makes defined plain ran = record {
  inside = ran.1.1.mode;
  was_open = ran.1.1.was_open;
  is_open = ran.1.1.is_open;
  bare = λ bare.
      let added = creates old new schema sql table bare.schema_is makes defined plain ran.0 ran.1.0 in
      let all = all_append (λ t. new.now.trees t.tree ≡ []) schema.tables (record table { tree = next_tree schema } ∷ []) (still_empty old.now.trees new.now.trees schema.tables bare.empty added.others) (added.empty, tt) in
      (record { schema_is = added.schema_is; empty = all }, added.sound);
}

-- ---- an index more

pub indexes : (old new : State) (schema : Schema) (at : ℕ) (sql : List ℕ) (table : Table) (index : Index) → meaning.MakesIndex schema at sql → slice_get schema.tables at ≡ Some table
    → index_defined_by table sql ≡ Ok index → Ran sql old new → Indexes old new schema (indexed schema table index)
indexes old new schema at sql table index makes there defined ran = record {
  inside = ran.1.1.mode;
  was_open = ran.1.1.was_open;
  is_open = ran.1.1.is_open;
  made = λ has.
      let w = subst (λ t. Writes old new None (CreateIndex at) t [] ran.0) makes.1 (runs_as sql [] old new schema has (CreateIndex at) makes.0 makes.2 ran.0 ran.1.0) in
      let first = went (subst (λ o. AtPlace (λ t. Defines (mode_of old) (MakesIndex sql old.now t)) o (Ok (w.tally, new.now))) (ap (λ (s : Schema). slice_get s.tables at) has ∙ there) w.changed) in
      let made = first.1 in
      let both : Ok made.index ≡ Ok index = sym made.defined ∙ defined in
      let same : made.index ≡ index = cc in
      let now : new.now ≡ first.0 = ap (λ (p : Tally × Database). p.1) (same_value first.2) in (
        ap (λ (d : Database). d.schema) now ∙ made.is ∙ ap (λ s. indexed s table made.index) has ∙ ap (indexed schema table) same,
        w.sound,
        subst (λ (d : Database). KeepsRows schema.tables old.now.trees d.trees) (sym now) (subst (λ s. KeepsRows s.tables old.now.trees first.0.trees) has made.rows),
      );
}

-- indexes leave the tables, so their rows stay through both steps
pub indexes_then : (a b c : State) (s t u : Schema) → s.tables ≡ t.tables → Indexes a b s t → Indexes b c t u → Indexes a c s u
indexes_then a b c s t u same first second = record {
  inside = second.inside;
  was_open = first.was_open;
  is_open = second.is_open;
  made = λ has.
      let one = first.made has in
      let two = second.made one.0 in
      (two.0, two.1, kept_then a.now.trees b.now.trees c.now.trees s.tables one.2 (subst (λ tables. KeepsRows tables b.now.trees c.now.trees) (sym same) two.2));
}

-- tables without rows have none with more indexes
pub extends_by : (old new : State) (s t : Schema) → s.tables ≡ t.tables → Indexes old new s t → Extends old new s t
extends_by old new s t same indexes = record {
  inside = indexes.inside;
  was_open = indexes.was_open;
  is_open = indexes.is_open;
  bare = λ bare.
      let made = indexes.made bare.schema_is in
      (record { schema_is = made.0; empty = subst (λ tables. AllByRecursion (λ u. new.now.trees u.tree ≡ []) tables) same (still_empty old.now.trees new.now.trees s.tables bare.empty made.2) }, made.1);
}

-- ---- the texts, one by one

pub adds_node : (old new : State) → Ran text.create_node old new → Extends old new no_schema with_node
unfolding everything
adds_node old new = adds_table old new no_schema text.create_node node_table meaning.tables_run.0 meaning.node_is refl

pub adds_ace : (old new : State) → Ran text.create_ace old new → Extends old new with_node with_ace
unfolding everything
adds_ace old new = adds_table old new with_node text.create_ace (record ace_table { tree = 0 }) meaning.tables_run.1 meaning.ace_is refl

pub adds_member : (old new : State) → Ran text.create_member old new → Extends old new with_ace with_member
unfolding everything
adds_member old new = adds_table old new with_ace text.create_member (record member_table { tree = 0 }) meaning.tables_run.2 meaning.member_is refl

pub adds_gone : (old new : State) → Ran text.create_gone old new → Extends old new with_member with_gone
unfolding everything
adds_gone old new = adds_table old new with_member text.create_gone (record gone_table { tree = 0 }) meaning.tables_run.3 meaning.gone_is refl

meta_runs : MakesTable with_gone text.create_meta
unfolding understood everything
meta_runs = (refl, refl, (refl, refl))

pub adds_meta : (old new : State) → Ran text.create_meta old new → Extends old new with_gone with_meta
unfolding everything
adds_meta old new = adds_table old new with_gone text.create_meta (record meta_table { tree = 0 }) meta_runs meaning.meta_is refl

pub adds_ace2 : (old new : State) → Ran text.create_ace2 old new → Extends old new with_meta with_ace2
unfolding everything
adds_ace2 old new = adds_table old new with_meta text.create_ace2 (record ace2_table { tree = 0 }) meaning.tables_run.5 meaning.ace2_is refl

pub adds_reach : (old new : State) → Ran text.create_reach old new → Extends old new with_ace2 with_reach
unfolding everything
adds_reach old new = adds_table old new with_ace2 text.create_reach (record reach_table { tree = 0 }) meaning.tables_run.6 meaning.reach_is refl

pub indexes_parent : (old new : State) → Ran text.index_parent old new → Indexes old new with_reach with_parent
unfolding everything
indexes_parent old new = indexes old new with_reach 0 text.index_parent node_table _ meaning.indexes_run.0 refl meaning.indexes_are.0

pub indexes_owner : (old new : State) → Ran text.index_owner old new → Indexes old new with_parent with_owner
unfolding everything
indexes_owner old new = indexes old new with_parent 0 text.index_owner node_table _ meaning.indexes_run.1 refl meaning.indexes_are.1

pub indexes_principal : (old new : State) → Ran text.index_principal old new → Indexes old new with_owner with_principal
unfolding everything
indexes_principal old new = indexes old new with_owner 1 text.index_principal ace_table _ meaning.indexes_run.2 refl meaning.indexes_are.2

pub indexes_members : (old new : State) → Ran text.index_member old new → Indexes old new with_principal with_members
unfolding everything
indexes_members old new = indexes old new with_principal 2 text.index_member member_table _ meaning.indexes_run.3 refl meaning.indexes_are.3

pub indexes_entries : (old new : State) → Ran text.index_entries old new → Indexes old new with_members with_entries
unfolding everything
indexes_entries old new = indexes old new with_members 5 text.index_entries ace2_table _ meaning.indexes_run.4 refl meaning.indexes_are.4

pub indexes_removed : (old new : State) → Ran text.index_gone old new → Indexes old new with_entries with_removed
unfolding everything
indexes_removed old new = indexes old new with_entries 3 text.index_gone gone_table _ meaning.indexes_run.5 refl meaning.indexes_are.5

pub indexes_groups : (old new : State) → Ran text.index_reach old new → Indexes old new with_removed with_all
unfolding everything
indexes_groups old new = indexes old new with_removed 6 text.index_reach reach_table _ meaning.indexes_run.6 refl meaning.indexes_are.6

-- the table of entries, where the tables of version 1 have rows
pub renewed : (old new : State) → Ran text.create_ace2 old new → Renews old new
unfolding everything
renewed old new ran = record {
  inside = ran.1.1.mode;
  was_open = ran.1.1.was_open;
  is_open = ran.1.1.is_open;
  made = λ has.
      let table = creates old new with_meta text.create_ace2 (record ace2_table { tree = 0 }) (has ∙ sym meaning.first_is) meaning.tables_run.5 meaning.ace2_is refl ran.0 ran.1.0 in
      (table.schema_is ∙ meaning.base_is, table.sound, table.others, table.empty);
}

-- ---- `reach`, behind all other tables, and then the indexes

-- rows that stay rise still
pub still_rising : (old new : Trees) (tables : List Table) → ((t : Table) → Has tables t → IsShaped TableShape (old t.tree)) → KeepsRows tables old new → (t : Table) → Has tables t → IsShaped TableShape (new t.tree)
still_rising old new [] rising kept t there = absurd there
still_rising old new (u ∷ tables) rising kept t (inl is) = subst (λ (x : Table). IsShaped TableShape (new x.tree)) (sym is) (subst (IsShaped TableShape) (sym kept.0) (rising u (inl refl)))
still_rising old new (u ∷ tables) rising kept t (inr there) = still_rising old new tables (λ x h. rising x (inr h)) kept.1 t there

-- of tables with one more behind them
pub kept_front : (a b : Trees) (tables : List Table) (last : Table) → KeepsRows (tables ++ last ∷ []) a b → KeepsRows tables a b × (b last.tree ≡ a last.tree)
kept_front a b [] last kept = (tt, kept.0)
kept_front a b (t ∷ tables) last kept = let more = kept_front a b tables last kept.1 in ((kept.0, more.0), more.1)

rising_more : (trees : Trees) (tables : List Table) (last : Table) → ((t : Table) → Has tables t → IsShaped TableShape (trees t.tree)) → trees last.tree ≡ [] → (t : Table) → Has (tables ++ last ∷ []) t → IsShaped TableShape (trees t.tree)
rising_more trees [] last rising empty t (inl is) = subst (λ (x : Table). IsShaped TableShape (trees x.tree)) (sym is) (subst (IsShaped TableShape) (sym empty) (tt, tt))
rising_more trees [] last rising empty t (inr there) = absurd there
rising_more trees (u ∷ tables) last rising empty t (inl is) = rising t (inl is)
rising_more trees (u ∷ tables) last rising empty t (inr there) = rising_more trees tables last (λ x h. rising x (inr h)) empty t there

base_tables_are : with_ace2.tables ≡ base_schema.tables
unfolding everything
base_tables_are = refl

reach_tables_are : with_reach.tables ≡ base_schema.tables ++ reach_table ∷ []
unfolding everything
reach_tables_are = refl

next_is : next_tree with_ace2 ≡ reach_tree
unfolding everything
next_is = refl

plain_reach : lacks_sequence (created with_ace2 (record reach_table { tree = 0 })) ≡ false
unfolding everything
plain_reach = refl

made_reach : created with_ace2 (record reach_table { tree = 0 }) ≡ with_reach
unfolding everything
made_reach = refl

pub gets_derived : (old mid new : State) → Ran text.create_reach old mid → Indexes mid new with_reach with_all → GetsDerived old new
gets_derived old mid new first second = record {
  inside = second.inside;
  was_open = first.1.1.was_open;
  is_open = second.is_open;
  made = λ base.
      let added = creates old mid with_ace2 text.create_reach (record reach_table { tree = 0 }) (base.schema ∙ sym meaning.base_is) meaning.tables_run.6 meaning.reach_is plain_reach first.0 first.1.0 in
      let index = second.made (added.schema_is ∙ made_reach) in
      let others : KeepsRows base_schema.tables old.now.trees mid.now.trees = subst (λ ts. KeepsRows ts old.now.trees mid.now.trees) base_tables_are added.others in
      let empty : mid.now.trees reach_tree ≡ [] = subst (λ n. mid.now.trees n ≡ []) next_is added.empty in
      let kept : KeepsRows (base_schema.tables ++ reach_table ∷ []) mid.now.trees new.now.trees = subst (λ ts. KeepsRows ts mid.now.trees new.now.trees) reach_tables_are index.2 in
      let parts = kept_front mid.now.trees new.now.trees base_schema.tables reach_table kept in
      let both = kept_then old.now.trees mid.now.trees new.now.trees base_schema.tables others parts.0 in
      let none : new.now.trees reach_tree ≡ [] = parts.1 ∙ empty in (
        record {
          schema = index.0 ∙ meaning.made_is;
          rules = index.1;
          rising = rising_more new.now.trees base_schema.tables reach_table (still_rising old.now.trees new.now.trees base_schema.tables base.rising both) none;
        },
        both,
        none,
      );
}
