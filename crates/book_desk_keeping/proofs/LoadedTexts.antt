-- A store that was made of a text, as changes made it.
use Rattle.book_desk_keeping.proofs.Common.{◌≡◌, ℕ, List, Option, Some, Result, Ok, Err, IfOk, refl, subst}
use Rattle.std.proofs.Common.{OnOk}
use Rattle.std.specs.Io.KnownBytes.{Appends}
use Rattle.sqlite.specs.State.{State, HasCleanDisk}
use Rattle.book_desk_keeping.specs.Changes.{changed_by_all}
use Rattle.book_desk_keeping.specs.Keeping.{Loads}
use Rattle.book_desk_keeping.specs.declared.changes.Change.{Change}
use Rattle.book_dumps_changes.specs.declared.changed.Changed.{Changed}
use Rattle.book_dumps_loading.specs.Loading.{StandsForText}
use Rattle.book_dumps_reading.specs.Dumped.{dumped_text}
use Rattle.book_dumps_reading.specs.declared.dumped.Dumped.{Dumped}
use Rattle.book_tables_schema.specs.Founding.{no_schema}

pub loads_made : {C E : Type 0} (state : C → State) (text : List ℕ) (changes : List Change) (fresh : C) (held holds : Option (List ℕ)) (r : Result C E)
    (d : Dumped) (changed : Changed) → dumped_text d ≡ text → changed ≡ changed_by_all changes d
    → IfOk r (λ c. HasCleanDisk (state c) → StandsForText (state c) (dumped_text changed.dumped))
    → OnOk r ((state fresh).now.schema ≡ no_schema) → OnOk r (Appends held holds changed.told)
    → IfOk r (λ c. Loads state text changes fresh held holds (Some c))
loads_made state text changes fresh held holds (Ok made) d changed read is stands empty written = record {
  dumped = d;
  read = read;
  makes = (empty, made, refl, λ clean. subst (λ (x : Changed). StandsForText (state made) (dumped_text x.dumped)) is (stands clean));
  written = subst (λ (x : Changed). Appends held holds x.told) is written;
}
loads_made state text changes fresh held holds (Err e) d changed read is stands empty written = tt
