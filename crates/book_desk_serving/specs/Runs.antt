-- What a run over a store does (own profile).
use Rattle.std.specs.Prelude.{◌≡◌, ◌⊎◌, ℕ, List, Option, Some, None}
use Rattle.std.specs.Io.KnownBytes.{Keeps}
use Rattle.sqlite.specs.State.{State}
use Rattle.book_office_values.specs.declared.offices.Office.{Office}
use Rattle.book_office.specs.Edits.{empty_office}
use Rattle.book_office.specs.Keeping.{in_memory}
use Rattle.book_desk_app.specs.Failures.{failure_status}
use Rattle.book_desk_app.specs.Stores.{AreTablesOf, standing_in}
use Rattle.book_desk_app.specs.declared.failures.Failure.{Failure}
use Rattle.book_desk_app.specs.declared.failures.Failure.TheVariants.{Store as StoreFailed}
use Rattle.book_desk_app.specs.declared.failures.StoreFailure.{StoreFailure}
use Rattle.book_desk_serving.specs.Tasks.{Performs}
use Rattle.book_desk_serving.specs.Works.{GivesNoTask, SpellsTask}
use Rattle.book_desk_serving.specs.declared.tasks.Task.{Task}
use Rattle.book_desk_serving.specs.declared.works.Work.{Work}

-- a task; what was read and is left to read, what the writer held and holds, the status, and the connection afterwards:
-- over connections with their state, and keepers with their connection and the number of their failures
module _ {C K : Type 0} (state : C → State) (connection : K → C) (failures : K → ℕ) where
  -- how a failure is told; and why the tables of a store were not had, and what was left of it
  module _ (Told : Failure → Type 0) (is_not_had : C → StoreFailure → Type 0) where
    -- the tables were not had, which was told, and nothing was read or written; or the task was done over them
    abbrev pub RunsOver : Task → C → Option (List ℕ) → Option (List ℕ) → Option (List ℕ) → Option (List ℕ) → ℕ → Option C → Type 0
    RunsOver task store before after held holds status back =
        ((failure : StoreFailure) × is_not_had store failure × (status ≡ 3) × (back ≡ None)
        × Keeps before after × Keeps held holds × Told (StoreFailed failure))
        ⊎ ((old : K) × (new : K) × AreTablesOf state connection failures store old × Performs Told (standing_in state connection failures) task old before after held holds status new
        × (back ≡ Some (connection new)))

    -- without a store it is done over the empty Office in memory
    abbrev pub RunsIn : Task → Option C → Option (List ℕ) → Option (List ℕ) → Option (List ℕ) → Option (List ℕ) → ℕ → Option C → Type 0
    RunsIn task None before after held holds status back =
        ((new : Office) × Performs Told in_memory task empty_office before after held holds status new) × (back ≡ None)
    RunsIn task (Some store) before after held holds status back = RunsOver task store before after held holds status back

    -- ---- a run, where the policy's file has such bytes

    -- the file makes no task of the work, which was told, and nothing was touched; or its task was done
    abbrev pub Runs : {F : Type 0} → (F → List ℕ) → Work → Option C → Option F → Option (List ℕ) → Option (List ℕ) → Option (List ℕ) → Option (List ℕ) → ℕ → Option C → Type 0
    Runs bytes work store file before after held holds status back =
        ((failure : Failure) × (status ≡ failure_status failure) × GivesNoTask bytes work file failure × (back ≡ store)
        × Keeps before after × Keeps held holds × Told failure)
        ⊎ ((task : Task) × SpellsTask bytes work file task × RunsIn task store before after held holds status back)
