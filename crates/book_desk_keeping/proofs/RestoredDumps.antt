-- A store that was made of another one with resources of a backup.
use Rattle.book_desk_keeping.proofs.Common.{◌≡◌, ℕ, List, Option, Some, Result, Ok, Err, IfOk, refl}
use Rattle.std.proofs.Common.{OnOk}
use Rattle.std.specs.Io.KnownBytes.{Appends}
use Rattle.std.specs.List.{AllZip}
use Rattle.sqlite.specs.State.{State, HasCleanDisk}
use Rattle.book_desk_keeping.specs.Restoring.{IsRestoredFrom, IsToldOf, Restores}
use Rattle.book_dumps_changes.specs.declared.changed.Changed.{Changed}
use Rattle.book_dumps_loading.specs.Loading.{StandsForText}
use Rattle.book_dumps_reading.specs.Dumped.{dumped_text}
use Rattle.book_dumps_reading.specs.declared.dumped.Dumped.{Dumped}
use Rattle.book_dumps_restoring.specs.Restoring.{restored}
use Rattle.book_office.specs.Keeping.{Standing}
use Rattle.book_office_values.specs.Paths.{SpellsPath}
use Rattle.book_office_values.specs.declared.paths.Path.{Path}
use Rattle.book_tables_schema.specs.Founding.{no_schema}

module _ (store store_after backup backup_after : Standing) (texts : List (List ℕ)) where
  pub restored_from : {E : Type 0} (d k : Dumped) (r : Result Changed E) → IsToldOf store store_after d → IsToldOf backup backup_after k
      → IfOk r (λ changed. (paths : List Path) × AllZip SpellsPath texts paths × (changed ≡ restored d k paths))
      → IfOk r (IsRestoredFrom store store_after backup backup_after texts)
  restored_from d k (Ok changed) of_store of_backup made = record {
    dumped = d;
    kept = k;
    paths = made.0;
    spelled = made.1;
    made = made.2;
    of_store = of_store;
    of_backup = of_backup;
  }
  restored_from d k (Err e) of_store of_backup made = tt

  pub restores_made : {C E : Type 0} (state : C → State) (fresh : C) (held holds : Option (List ℕ)) (r : Result C E) (changed : Changed)
      → IsRestoredFrom store store_after backup backup_after texts changed
      → IfOk r (λ c. HasCleanDisk (state c) → StandsForText (state c) (dumped_text changed.dumped))
      → OnOk r ((state fresh).now.schema ≡ no_schema) → OnOk r (Appends held holds changed.told)
      → IfOk r (λ c. Restores state store store_after backup backup_after texts fresh held holds (Some c))
  restores_made state fresh held holds (Ok made) changed from stands empty written = record {
    changed = changed;
    from = from;
    makes = (empty, made, refl, stands);
    written = written;
  }
  restores_made state fresh held holds (Err e) changed from stands empty written = tt
