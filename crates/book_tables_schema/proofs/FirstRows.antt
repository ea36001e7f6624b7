-- The tables without rows, and with the first rows, are those of a store.
use Rattle.book_tables_schema.proofs.Common.{◌≡◌, List, [], ◌∷◌, refl, sym, subst, ◌∙◌, Database, Schema, State, book_schema, IsBook, Extends, no_schema, with_all}
use Rattle.std.proofs.Common.{inl, inr, ap}
use Rattle.std.specs.List.{AllByRecursion}
use Rattle.sqlite.specs.Effect.{IsDatabase}
use Rattle.sqlite.specs.Table.{Table}
use Rattle.sqlite_rules.specs.Lists.{Has}
use Rattle.sqlite_trees.specs.View.{IsShaped}
use Rattle.sqlite_trees.specs.declared.store.Shape.TheVariants.{Table as TableShape}
use Rattle.book_tables_rows.specs.Rows.{rows_of}
use Rattle.book_tables_rows.specs.Steps.{Becomes}
use Rattle.book_tables_rows.proofs.Meanings.{made_is}
use Rattle.book_tables_schema.specs.Founding.{IsBare, Founds, no_rows, insert_first, first_rows}
use Rattle.book_tables_rows.specs.Schema.{ace2_tree, reach_tree}

-- the first rows, written one after the other
pub first_are : insert_first no_rows ≡ first_rows
first_are = refl

module _ (db : Database) (bare : IsBare book_schema db) where
  shaped : (tables : List Table) → AllByRecursion (λ t. db.trees t.tree ≡ []) tables → (t : Table) → Has tables t → IsShaped TableShape (db.trees t.tree)
  shaped [] empty t there = absurd there
  shaped (u ∷ tables) empty t (inl is) = subst (IsShaped TableShape) (sym (ap (λ (x : Table). db.trees x.tree) is ∙ empty.0)) (tt, tt)
  shaped (u ∷ tables) empty t (inr there) = shaped tables empty.1 t there

  pub bare_book : IsDatabase db → IsBook db
  bare_book sound = record { schema = bare.schema_is; rules = sound; rising = shaped book_schema.tables bare.empty; former = bare.empty.1.0 }

  pub bare_rows : rows_of db.trees ≡ no_rows
  bare_rows =
      let nodes : db.trees 0 ≡ [] = bare.empty.0 in
      let entries : db.trees ace2_tree ≡ [] = bare.empty.1.1.1.1.1.0 in
      let members : db.trees 4 ≡ [] = bare.empty.1.1.0 in
      let gone : db.trees 6 ≡ [] = bare.empty.1.1.1.0 in
      let meta : db.trees 8 ≡ [] = bare.empty.1.1.1.1.0 in
      let reach : db.trees reach_tree ≡ [] = bare.empty.1.1.1.1.1.1.0 in
      λ i. record { nodes = nodes i; entries = entries i; members = members i; gone = gone i; meta = meta i; reach = reach i }

pub founds : (old between new : State) → Extends old between no_schema with_all → Becomes between new insert_first → Founds old new
founds old between new made written = record {
  inside = written.inside;
  was_open = made.was_open;
  is_open = written.is_open;
  made = λ bare.
      let now = made.bare bare in
      let is : IsBare book_schema between.now = subst (λ (s : Schema). IsBare s between.now) made_is now.0 in
      let x = written.rows (bare_book between.now is now.1) in
      (x.0, x.1 ∙ ap insert_first (bare_rows between.now is) ∙ first_are);
}

-- a schema that lists nothing
pub is_no_schema : (s : Schema) → s.tables ≡ [] → s.indexes ≡ [] → s.views ≡ [] → s ≡ no_schema
is_no_schema s tables indexes views = λ i. record { tables = tables i; indexes = indexes i; views = views i }
