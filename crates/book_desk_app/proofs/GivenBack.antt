-- What comes back of a store whose tables could not be had.
use Rattle.std.specs.Prelude.{◌≢◌}
use Rattle.sqlite.specs.Held.{Held, state}
use Rattle.sqlite.specs.State.{HasCleanDisk}
use Rattle.sqlite_trees.specs.declared.store.Store.{Ghosts}
use Rattle.book_tables_schema.specs.Founding.{no_schema}
use Rattle.book_tables_schema.specs.Reopening.{IfConnection, IfStore, IsConnectionAnd}
use Rattle.book_tables_schema.specs.declared.reopening.Unopened.{Unopened}
use Rattle.book_tables_schema.specs.declared.reopening.Unopened.TheVariants.{Connection, Store}
use Rattle.book_tables.specs.declared.opening.OpenFault.{OpenFault}
use Rattle.book_tables_opening.specs.Reading.{FaultSaysOf, IsRefused, IsUnopened, StandForNone}
use Rattle.book_desk_app.specs.Stores.{LeavesStore}

-- one with tables, which could not be opened
pub unopened : {S : Type 0} (g : Ghosts S) (store : Held S) (fault : OpenFault) (back : Unopened S) → (state g store).now.schema ≢ no_schema
    → (IsRefused fault → IsConnectionAnd back (λ c. HasCleanDisk (state g c) → StandForNone (state g store).committed.trees))
    → (IsRefused fault → IsConnectionAnd back (λ c. HasCleanDisk (state g c) → FaultSaysOf 2 (state g store).committed.trees fault))
    → IfConnection back (λ c. HasCleanDisk (state g c) → IsUnopened (state g store).committed.trees (state g c))
    → IfStore back (λ _. ⊥)
    → LeavesStore g store fault back
unopened g store fault (Store left) full none other kept connected = absurd connected
unopened g store fault (Connection c) full none other kept connected = λ clean. record {
  bare = λ bare. absurd (full bare);
  left = λ _. kept clean;
  none = λ refused. none refused clean;
  other = λ refused. other refused clean;
}
