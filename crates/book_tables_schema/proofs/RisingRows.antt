-- The rows of a table rise by their numbers while its store is not broken.
use Rattle.book_tables_schema.proofs.Common.{◌≡◌, false, refl, sym, subst, ◌∙◌, Database, Schema}
use Rattle.std.proofs.Common.{Bool, true, IsTrue, true≢false}
use Rattle.sqlite.specs.Effect.{IsDatabase}
use Rattle.sqlite.specs.Table as schema_table
use Rattle.sqlite_rules.specs.Lists.{Has}
use Rattle.sqlite_trees.specs.Objects.{catalog_tree, IsListed}
use Rattle.sqlite_trees.specs.View.{View, IsShaped, IsOrdered}
use Rattle.sqlite_trees.specs.declared.store.Shape.TheVariants.{Table}
use Rattle.sqlite_catalog.specs.Listing.{IsSound}
use Rattle.sqlite_catalog.proofs.LayoutLemmas.{table_shape, objects_rise}
use Rattle.book_tables_schema.specs.Tabled.{HasTables}

rows_rise : (v : View) (schema : Schema) → IsSound schema v.trees → IsListed (v.trees catalog_tree) v.shape v.reals → IsOrdered v.shape v.trees
    → (t : schema_table.Table) → Has schema.tables t → IsShaped Table (v.trees t.tree)
rows_rise v schema sound listed ordered t there =
    let shape = table_shape listed (objects_rise v listed ordered).0 sound.lists.listed t there in
    subst (λ s. IsShaped s (v.trees t.tree)) shape.0 (ordered t.tree)

-- tables that were read from a store that is not broken rise by their numbers
pub tabled_of : (v : View) (db : Database) → db.trees ≡ v.trees → IsDatabase db → IsListed (v.trees catalog_tree) v.shape v.reals → IsOrdered v.shape v.trees → HasTables db.schema db
tabled_of v db trees rules listed ordered = record {
  schema = refl;
  rules = rules;
  rising = λ t there. subst (λ x. IsShaped Table (x t.tree)) (sym trees) (rows_rise v db.schema (subst (IsSound db.schema) trees rules) listed ordered t there);
}

-- their schema is this one
pub tables_as : (wanted : Schema) (db : Database) → HasTables db.schema db → db.schema ≡ wanted → HasTables wanted db
tables_as wanted db tables has = record { schema = has; rules = tables.rules; rising = λ t there. tables.rising t (subst (λ s. Has s.tables t) (sym has) there) }

-- a store that is not broken is open
pub open_of : (is_open broken : Bool) → (is_open ≡ false → IsTrue broken) → broken ≡ false → IsTrue is_open
open_of true broken law unbroken = refl
open_of false broken law unbroken = absurd (true≢false (sym (law refl) ∙ unbroken))
