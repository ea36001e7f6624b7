-- What a CREATE leaves.
use Rattle.book_tables_rows.proofs.Common.{◌≡◌, ℕ, false, List, [], None, Ok, sym, ap, subst, ◌∙◌, Tally, Database, IsDatabase, Schema, Table, Trees, State, Executes, runs_as}
use Rattle.sqlite.specs.Change.{created, next_tree, indexed}
use Rattle.sqlite_catalog.specs.Change.{KeepsRows}
use Rattle.sqlite.specs.Command.TheVariants.{CreateTable}
use Rattle.sqlite.specs.Compile.{table_defined_by}
use Rattle.sqlite.specs.Does.{lacks_sequence}
use Rattle.sqlite_schema.specs.declared.schema.Index.{Index}
use Rattle.sqlite.specs.State.{Writes}
use Rattle.book_tables_rows.proofs.Meanings.{MakesTable}
use Rattle.book_tables_rows.proofs.Statements.{went, same_value}

-- a table more, with no rows
pub record AddsTable (schema : Schema) (table : Table) (old : Trees) (new : Database) : Type 0 where
  pub schema_is : new.schema ≡ created schema table
  pub empty : new.trees (next_tree schema) ≡ []
  pub others : KeepsRows schema.tables old new.trees
  pub sound : IsDatabase new

pub creates : (old new : State) (schema : Schema) (sql : List ℕ) (table : Table) → old.now.schema ≡ schema → MakesTable schema sql → table_defined_by sql ≡ Ok table → lacks_sequence (created schema table) ≡ false
    → (count : ℕ) → Executes sql [] old new (Ok count) → AddsTable schema table old.now.trees new.now
creates old new schema sql table has makes defined plain count h =
    let w = subst (λ t. Writes old new None CreateTable t [] count) makes.1 (runs_as sql [] old new schema has CreateTable makes.0 makes.2 count h) in
    let all = went w.changed in
    let first = went all.1 in
    let made = first.1 in
    let both : Ok made.table ≡ Ok table = sym made.defined ∙ defined in
    let same : made.table ≡ table = cc in
    let is : first.0.schema ≡ created schema table = made.is ∙ ap (λ s. created s made.table) has ∙ ap (created schema) same in
    let no_sequence : lacks_sequence first.0.schema ≡ false = ap lacks_sequence is ∙ plain in
    let now : new.now ≡ first.0 = ap (λ (p : Tally × Database). p.1) (same_value all.2) ∙ same_value (rw no_sequence at first.2) in
    record {
      schema_is = ap (λ (d : Database). d.schema) now ∙ is;
      empty = ap (λ (d : Database). d.trees (next_tree schema)) now ∙ subst (λ s. first.0.trees (next_tree s) ≡ []) has made.empty;
      others = subst (λ (d : Database). KeepsRows schema.tables old.now.trees d.trees) (sym now) (subst (λ s. KeepsRows s.tables old.now.trees first.0.trees) has made.others);
      sound = w.sound;
    }

-- an index more, and the same rows
pub record AddsIndex (schema : Schema) (table : Table) (index : Index) (old : Trees) (new : Database) : Type 0 where
  pub schema_is : new.schema ≡ indexed schema table index
  pub others : KeepsRows schema.tables old new.trees
  pub sound : IsDatabase new
