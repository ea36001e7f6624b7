-- An edit of rows that give an Office is an edit of the Office.
use Rattle.book_tables.proofs.Common.{◌≡◌, inl, ℕ, List, Ok, Err, refl, subst, IsTrue, Database, IsDatabase, State, HasCleanDisk, Survives, IsShaped, Office, apply, StoreFault, failures_after_fault, IsSound, Rows, rows_of, IsBook, Makes, Keeps, inside_of, EditsInside, is_at, PassesOnce, Gives, IsKept, StandsFor}
use Rattle.sqlite_trees.specs.declared.store.Shape.TheVariants.{Table as TableShape}
use Rattle.book_office.specs.declared.edits.Edit.{Edit}
use Rattle.book_office.specs.Sound.{Fits}
use Rattle.book_tables_rows.specs.Schema.{node_table}
use Rattle.book_tables_rows.specs.Steps.{Change}
use Rattle.book_tables_rows.proofs.Keys.{path_once}
use Rattle.book_tables.specs.Reach.{HoldsReach}

-- what the schema says of the rows of `node`: they rise by their numbers, and no two have one path
pub record AreNodes (rows : Rows) : Type 0 where
  pub shaped : IsShaped TableShape rows.nodes
  pub once : (t : List ℕ) → PassesOnce (is_at t) rows.nodes

pub nodes_of : (db : Database) → IsBook db → AreNodes (rows_of db.trees)
nodes_of db book = record { shaped = book.rising node_table (inl refl); once = λ t. path_once t db.trees (subst (λ k. IsDatabase (record { schema = k; trees = db.trees })) book.schema book.rules) (book.rising node_table (inl refl)) }

-- the change of the rows that an edit may rest on
pub record Given (rows : Rows) (o : Office) (edit : Edit) : Type 0 where
  pub nodes : AreNodes rows
  pub gives : Gives rows o
  pub sound : IsSound o
  pub fits : Fits o edit

-- rows that give an Office which the edit fits are rows that the change fits, and give the edited Office afterwards
pub record GivesEdited (edit : Edit) (change : Change) : Type 0 where
  pub fits : (rows : Rows) (o : Office) → Given rows o edit → change.Fits rows
  pub gives : (rows after : Rows) (o : Office) → Given rows o edit → change.Makes rows after → Gives after (apply o edit)
  pub reach : (rows after : Rows) (o : Office) → Given rows o edit → change.Makes rows after → HoldsReach rows.reach o.pairs → HoldsReach after.reach (apply o edit).pairs

module _ (old new : State) (edit : Edit) (change : Change) (edited : GivesEdited edit change) where
  stands_edited : (o : Office) → Makes old new change → StandsFor old o → Fits o edit → IsKept new.now (apply o edit)
  stands_edited o m stands fits =
      let st = stands.0 m.was_open in
      let given : Given (rows_of old.now.trees) o edit = record { nodes = nodes_of old.now st.book; gives = st.gives; sound = st.sound; fits = fits } in
      let done = m.made st.book (edited.fits (rows_of old.now.trees) o given) in
      record {
        book = done.0;
        gives = edited.gives (rows_of old.now.trees) (rows_of new.now.trees) o given done.1;
        sound = fits.sound;
        reach = edited.reach (rows_of old.now.trees) (rows_of new.now.trees) o given done.1 st.reach;
      }

  pub edit_made : Survives old new (λ _. ⊥) → Keeps old new → (failures : ℕ) → (HasCleanDisk new → IsTrue old.in_transaction → Makes old new change)
      → EditsInside (inside_of old failures) (inside_of new failures) (Ok tt) edit
  edit_made survives kept failures makes = record {
    survives = survives;
    kept = kept;
    inside = λ h inside. (makes h inside).inside;
    made = λ h inside o stands fits. stands_edited o (makes h inside) stands fits;
    counted = refl;
  }

pub edit_failed : (old new : State) (edit : Edit) → Survives old new (λ _. ⊥) → Keeps old new → (before failures : ℕ) (fault : StoreFault) → failures ≡ failures_after_fault fault before
    → EditsInside (inside_of old before) (inside_of new failures) (Err fault) edit
edit_failed old new edit survives kept before failures fault counted = record { survives = survives; kept = kept; inside = λ h _. tt; made = λ h _. tt; counted = counted }
