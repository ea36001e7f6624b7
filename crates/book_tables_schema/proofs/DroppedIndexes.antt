-- Indexes are taken away, each where there is one of the name, whatever the schema without views.
use Rattle.book_tables_schema.proofs.Common.{◌≡◌, List, [], ◌∷◌, codes, refl, sym, subst, ◌∙◌, Database, Schema, State}
use Rattle.std.proofs.Common.{ℕ, true, if◌then◌else◌, Option, slice_get, Some, None, Result, Ok, ap}
use Rattle.std.specs.Prelude.{option_and_then}
use Rattle.sqlite.specs.Command.{Command}
use Rattle.sqlite.specs.Command.TheVariants.{DropIndex, Nothing}
use Rattle.sqlite.specs.Does.{AtPlace, Defines, Leaves, Tally}
use Rattle.sqlite.specs.Effect.{IsDatabase, RefusesToAlter}
use Rattle.sqlite.specs.Listing.{understood, if_select, listing_schema, misses_table}
use Rattle.sqlite.specs.State.{Executes, mode_of}
use Rattle.sqlite.specs.Table.{Table}
use Rattle.sqlite.specs.Tree.{Trees}
use Rattle.sqlite.proofs.Callers.{IsPlain, command_of, runs_as}
use Rattle.sqlite_catalog.specs.Calls.{RefusesToDropIndex}
use Rattle.sqlite_catalog.specs.Change.{KeepsRows, without_index}
use Rattle.sqlite_resolve.specs.Compile.{compiled, dropped, first, with_command}
use Rattle.sqlite_resolve.specs.Lowering.{and_then}
use Rattle.sqlite_resolve.specs.declared.compiled.Compiled.{Compiled}
use Rattle.sqlite_resolve.specs.declared.error.CompileError.{CompileError}
use Rattle.sqlite_resolve.specs.declared.error.CompileError.TheVariants.{NoSuchIndex}
use Rattle.sqlite_schema.specs.Names.{index_named}
use Rattle.sqlite_schema.specs.declared.schema.Index.{Index}
use Rattle.sqlite_tied.specs.Compute.{everything}
use Rattle.book_tables_rows.proofs.Statements.{went, same_value}
use Rattle.book_tables_schema.specs.Founding.{Ran}
use Rattle.book_tables_schema.specs.OwnIndexes.{DropsIndexes, bared, without_found, without_named, without_node_indexes, without_principal_indexes, without_last_indexes}
use Rattle.book_tables_schema.proofs.Tabling.{kept_then}

abbrev pub plain_schema : List Table → List Index → Schema
plain_schema tables indexes = record { tables = tables; indexes = indexes; views = [] }

abbrev pub command_at : Option ℕ → Command
command_at None = Nothing
command_at (Some at) = DropIndex at

-- what the text is compiled to, where the index of its name stands in this place or is not there
pub compiled_with : List ℕ → Option ℕ → Result Compiled CompileError
compiled_with sql o = and_then (first sql) (λ p. and_then (and_then (and_then (dropped DropIndex NoSuchIndex true o) (λ c. Ok (c, None))) (λ found. Ok ([], found))) (λ plan. Ok (with_command p plan)))

pub understood_with : List ℕ → Option ℕ → Result Compiled CompileError
understood_with sql o = if misses_table (compiled_with sql o) then if_select (compiled listing_schema sql) else compiled_with sql o

pub rows_same : (tables : List Table) (a b : Trees) → a ≡ b → KeepsRows tables a b
rows_same [] a b is = tt
rows_same (t ∷ tables) a b is = (ap (λ (trees : Trees). trees t.tree) (sym is), rows_same tables a b is)

-- a text that takes away the index of a name
pub record TakesAway (sql name : List ℕ) : Type 0 where
  pub so : (tables : List Table) (indexes : List Index) → understood (plain_schema tables indexes) sql ≡ understood_with sql (index_named (plain_schema tables indexes) name)
  pub command : (o : Option ℕ) → command_of (understood_with sql o) ≡ command_at o
  pub plain : (o : Option ℕ) → IsPlain (understood_with sql o)

module _ (sql name : List ℕ) (it : TakesAway sql name) (old new : State) (tables : List Table) (indexes : List Index) (has : old.now.schema ≡ plain_schema tables indexes) (sound : IsDatabase old.now) (count : ℕ)
    (ran : Executes sql [] old new (Ok count)) where
  abbrev schema : Schema
  schema = plain_schema tables indexes

  abbrev Left : Type 0
  Left = (new.now.schema ≡ without_named name schema) × IsDatabase new.now × KeepsRows tables old.now.trees new.now.trees

  command_is : (o : Option ℕ) → index_named schema name ≡ o → command_of (understood schema sql) ≡ command_at o
  command_is o is = ap command_of (it.so tables indexes) ∙ it.command (index_named schema name) ∙ ap command_at is

  plain_is : IsPlain (understood schema sql)
  plain_is = subst IsPlain (sym (it.so tables indexes)) (it.plain (index_named schema name))

  left_is : (o : Option ℕ) → index_named schema name ≡ o → without_named name schema ≡ without_found schema (option_and_then (slice_get indexes) o)
  left_is o is = ap (λ o. without_found schema (option_and_then (slice_get indexes) o)) is

  at_place : (at : ℕ) (tally : Tally) (i : Option Index) → slice_get indexes at ≡ i
      → AtPlace (λ index. Defines (mode_of old) (Leaves (without_index schema index.tree) old.now.trees (RefusesToAlter (RefusesToDropIndex index)))) i (Ok (tally, new.now))
      → (new.now.schema ≡ without_found schema i) × KeepsRows tables old.now.trees new.now.trees
  at_place at tally None is h = absurd (let e = h in cc)
  at_place at tally (Some index) is h =
      let done = went h in
      let now : new.now ≡ done.0 = ap (λ (p : Tally × Database). p.1) (same_value done.2) in
      (ap (λ (d : Database). d.schema) now ∙ done.1.0, subst (λ (d : Database). KeepsRows tables old.now.trees d.trees) (sym now) done.1.1)

  go : (o : Option ℕ) → index_named schema name ≡ o → Left
  go None is =
      let unchanged = runs_as sql [] old new schema has Nothing (command_is None is) plain_is count ran in
      let same : new.now ≡ old.now = unchanged.0.0.now_is in
      (ap (λ (d : Database). d.schema) same ∙ has ∙ sym (left_is None is), subst IsDatabase (sym same) sound, rows_same tables old.now.trees new.now.trees (ap (λ (d : Database). d.trees) (sym same)))
  go (Some at) is =
      let w = runs_as sql [] old new schema has (DropIndex at) (command_is (Some at) is) plain_is count ran in
      let here = subst (λ (s : Schema). AtPlace (λ index. Defines (mode_of old) (Leaves (without_index s index.tree) old.now.trees (RefusesToAlter (RefusesToDropIndex index)))) (slice_get s.indexes at) (Ok (w.tally, new.now))) has w.changed in
      let left = at_place at w.tally (slice_get indexes at) refl here in
      (left.0 ∙ sym (left_is (Some at) is), w.sound, left.1)

  pub takes : Left
  takes = go (index_named schema name) refl

drops_as : (sql name : List ℕ) → TakesAway sql name → (old new : State) → Ran sql old new → DropsIndexes (without_named name) old new
drops_as sql name it old new ran = record {
  inside = ran.1.1.mode;
  was_open = ran.1.1.was_open;
  is_open = ran.1.1.is_open;
  made = λ unviewed sound.
      let has : old.now.schema ≡ plain_schema old.now.schema.tables old.now.schema.indexes = λ i. record old.now.schema { views = unviewed i } in
      let left = takes sql name it old new old.now.schema.tables old.now.schema.indexes has sound ran.0 ran.1.0 in
      (left.0 ∙ ap (without_named name) (sym has), left.1, left.2);
}

-- ---- the texts

abbrev pub drop_parent : List ℕ
drop_parent = codes "DROP INDEX IF EXISTS node_parent"

parent_taken : TakesAway drop_parent (codes "node_parent")
unfolding understood everything compiled_with understood_with
parent_taken = record { so = λ tables indexes. refl; command = λ o. elim o as (λ o. command_of (understood_with drop_parent o) ≡ command_at o) [ None ↦ refl | Some at ↦ refl ]; plain = λ o. elim o as (λ o. IsPlain (understood_with drop_parent o)) [ None ↦ (refl, refl) | Some at ↦ (refl, refl) ] }

abbrev pub drop_owner : List ℕ
drop_owner = codes "DROP INDEX IF EXISTS node_owner"

owner_taken : TakesAway drop_owner (codes "node_owner")
unfolding understood everything compiled_with understood_with
owner_taken = record { so = λ tables indexes. refl; command = λ o. elim o as (λ o. command_of (understood_with drop_owner o) ≡ command_at o) [ None ↦ refl | Some at ↦ refl ]; plain = λ o. elim o as (λ o. IsPlain (understood_with drop_owner o)) [ None ↦ (refl, refl) | Some at ↦ (refl, refl) ] }

abbrev pub drop_principal : List ℕ
drop_principal = codes "DROP INDEX IF EXISTS ace_principal"

principal_taken : TakesAway drop_principal (codes "ace_principal")
unfolding understood everything compiled_with understood_with
principal_taken = record { so = λ tables indexes. refl; command = λ o. elim o as (λ o. command_of (understood_with drop_principal o) ≡ command_at o) [ None ↦ refl | Some at ↦ refl ]; plain = λ o. elim o as (λ o. IsPlain (understood_with drop_principal o)) [ None ↦ (refl, refl) | Some at ↦ (refl, refl) ] }

abbrev pub drop_members : List ℕ
drop_members = codes "DROP INDEX IF EXISTS member_member"

members_taken : TakesAway drop_members (codes "member_member")
unfolding understood everything compiled_with understood_with
members_taken = record { so = λ tables indexes. refl; command = λ o. elim o as (λ o. command_of (understood_with drop_members o) ≡ command_at o) [ None ↦ refl | Some at ↦ refl ]; plain = λ o. elim o as (λ o. IsPlain (understood_with drop_members o)) [ None ↦ (refl, refl) | Some at ↦ (refl, refl) ] }

abbrev pub drop_entries : List ℕ
drop_entries = codes "DROP INDEX IF EXISTS ace2_principal"

entries_taken : TakesAway drop_entries (codes "ace2_principal")
unfolding understood everything compiled_with understood_with
entries_taken = record { so = λ tables indexes. refl; command = λ o. elim o as (λ o. command_of (understood_with drop_entries o) ≡ command_at o) [ None ↦ refl | Some at ↦ refl ]; plain = λ o. elim o as (λ o. IsPlain (understood_with drop_entries o)) [ None ↦ (refl, refl) | Some at ↦ (refl, refl) ] }

abbrev pub drop_removed : List ℕ
drop_removed = codes "DROP INDEX IF EXISTS gone_book"

removed_taken : TakesAway drop_removed (codes "gone_book")
unfolding understood everything compiled_with understood_with
removed_taken = record { so = λ tables indexes. refl; command = λ o. elim o as (λ o. command_of (understood_with drop_removed o) ≡ command_at o) [ None ↦ refl | Some at ↦ refl ]; plain = λ o. elim o as (λ o. IsPlain (understood_with drop_removed o)) [ None ↦ (refl, refl) | Some at ↦ (refl, refl) ] }

abbrev pub drop_groups : List ℕ
drop_groups = codes "DROP INDEX IF EXISTS reach_grp"

groups_taken : TakesAway drop_groups (codes "reach_grp")
unfolding understood everything compiled_with understood_with
groups_taken = record { so = λ tables indexes. refl; command = λ o. elim o as (λ o. command_of (understood_with drop_groups o) ≡ command_at o) [ None ↦ refl | Some at ↦ refl ]; plain = λ o. elim o as (λ o. IsPlain (understood_with drop_groups o)) [ None ↦ (refl, refl) | Some at ↦ (refl, refl) ] }

-- ---- one after another

-- an index that goes leaves the tables and the views
found_tables : (s : Schema) (found : Option Index) → (without_found s found).tables ≡ s.tables
found_tables s None = refl
found_tables s (Some index) = refl

found_views : (s : Schema) (found : Option Index) → (without_found s found).views ≡ s.views
found_views s None = refl
found_views s (Some index) = refl

pub record LeavesTables (left : Schema → Schema) : Type 0 where
  pub tables : (schema : Schema) → (left schema).tables ≡ schema.tables
  pub views : (schema : Schema) → (left schema).views ≡ schema.views

named_leaves : (name : List ℕ) → LeavesTables (without_named name)
named_leaves name = record {
  tables = λ schema. found_tables schema (option_and_then (slice_get schema.indexes) (index_named schema name));
  views = λ schema. found_views schema (option_and_then (slice_get schema.indexes) (index_named schema name));
}

both_leave : (f g : Schema → Schema) → LeavesTables f → LeavesTables g → LeavesTables (λ schema. g (f schema))
both_leave f g a b = record { tables = λ schema. b.tables (f schema) ∙ a.tables schema; views = λ schema. b.views (f schema) ∙ a.views schema }

pub drops_then : (f g : Schema → Schema) → LeavesTables f → (a b c : State) → DropsIndexes f a b → DropsIndexes g b c → DropsIndexes (λ schema. g (f schema)) a c
drops_then f g leaves a b c first second = record {
  inside = second.inside;
  was_open = first.was_open;
  is_open = second.is_open;
  made = λ unviewed sound.
      let one = first.made unviewed sound in
      let two = second.made (ap (λ (s : Schema). s.views) one.0 ∙ leaves.views a.now.schema ∙ unviewed) one.1 in
      let same : b.now.schema.tables ≡ a.now.schema.tables = ap (λ (s : Schema). s.tables) one.0 ∙ leaves.tables a.now.schema in
      (two.0 ∙ ap g one.0, two.1, kept_then a.now.trees b.now.trees c.now.trees a.now.schema.tables one.2 (subst (λ tables. KeepsRows tables b.now.trees c.now.trees) same two.2));
}

node_leaves : LeavesTables without_node_indexes
node_leaves = both_leave (without_named (codes "node_parent")) (without_named (codes "node_owner")) (named_leaves _) (named_leaves _)

principal_leaves : LeavesTables without_principal_indexes
principal_leaves = both_leave (without_named (codes "ace_principal")) (without_named (codes "member_member")) (named_leaves _) (named_leaves _)

removed_leaves : LeavesTables (λ schema. without_named (codes "gone_book") (without_named (codes "ace2_principal") schema))
removed_leaves = both_leave (without_named (codes "ace2_principal")) (without_named (codes "gone_book")) (named_leaves _) (named_leaves _)

last_leaves : LeavesTables without_last_indexes
last_leaves = both_leave (λ schema. without_named (codes "gone_book") (without_named (codes "ace2_principal") schema)) (without_named (codes "reach_grp")) removed_leaves (named_leaves _)

pub bared_leaves : LeavesTables bared
bared_leaves = both_leave (λ schema. without_principal_indexes (without_node_indexes schema)) without_last_indexes (both_leave without_node_indexes without_principal_indexes node_leaves principal_leaves) last_leaves

pub drops_node : (a b c : State) → Ran drop_parent a b → Ran drop_owner b c → DropsIndexes without_node_indexes a c
drops_node a b c one two =
    drops_then (without_named (codes "node_parent")) (without_named (codes "node_owner")) (named_leaves _) a b c (drops_as drop_parent _ parent_taken a b one) (drops_as drop_owner _ owner_taken b c two)

pub drops_principal : (a b c : State) → Ran drop_principal a b → Ran drop_members b c → DropsIndexes without_principal_indexes a c
drops_principal a b c one two =
    drops_then (without_named (codes "ace_principal")) (without_named (codes "member_member")) (named_leaves _) a b c (drops_as drop_principal _ principal_taken a b one) (drops_as drop_members _ members_taken b c two)

pub drops_last : (a b c d : State) → Ran drop_entries a b → Ran drop_removed b c → Ran drop_groups c d → DropsIndexes without_last_indexes a d
drops_last a b c d one two three =
    let both = drops_then (without_named (codes "ace2_principal")) (without_named (codes "gone_book")) (named_leaves _) a b c (drops_as drop_entries _ entries_taken a b one) (drops_as drop_removed _ removed_taken b c two) in
    drops_then (λ schema. without_named (codes "gone_book") (without_named (codes "ace2_principal") schema)) (without_named (codes "reach_grp")) removed_leaves a c d both (drops_as drop_groups _ groups_taken c d three)

pub drops_all : (a b c d : State) → DropsIndexes without_node_indexes a b → DropsIndexes without_principal_indexes b c → DropsIndexes without_last_indexes c d → DropsIndexes bared a d
drops_all a b c d one two three =
    let both = drops_then without_node_indexes without_principal_indexes node_leaves a b c one two in
    drops_then (λ schema. without_principal_indexes (without_node_indexes schema)) without_last_indexes (both_leave without_node_indexes without_principal_indexes node_leaves principal_leaves) a c d both three
