-- What the program does where it tells what adopting a policy would leave in a store, and what it would change (own profile).
use Rattle.std.specs.Prelude.{◌≡◌, ◌⊎◌, ◌++◌, ℕ, Bool, ◌&&◌, not, cond, List, codes, Option, Some, None, Result, Ok, Err}
use Rattle.std.specs.Io.KnownBytes.{Appends, Keeps}
use Rattle.std.specs.Str.{bytes_eq}
use Rattle.sqlite.specs.State.{State}
use Rattle.book_machine.specs.declared.adoptions.AdoptFault.TheVariants as adopting
use Rattle.book_office.specs.Keeping.{Standing}
use Rattle.book_policy_values.specs.declared.parts.PolicyTables.{PolicyTables}
use Rattle.book_questions_plans.specs.Planning.{IsPlan, Plans}
use Rattle.book_questions_plans.specs.declared.faults.PlanFault.{PlanFault}
use Rattle.book_questions_plans.specs.declared.faults.PlanFault.TheVariants as plans
use Rattle.book_questions_plans.specs.declared.planning.Planned.{Planned}
use Rattle.book_desk_app.specs.Failures.{failure_status, failure_text, store_failure, store_text}
use Rattle.book_desk_app.specs.Policies.{GivesNoPolicy, SpellsPolicy}
use Rattle.book_desk_app.specs.Stores.{AreTablesOf, standing_in}
use Rattle.book_desk_app.specs.declared.failures.Failure.{Failure}
use Rattle.book_desk_app.specs.declared.failures.Failure.TheVariants.{Adoption, Output, Store}
use Rattle.book_desk_app.specs.declared.failures.StoreFailure.{StoreFailure}
use Rattle.book_desk_questions.specs.declared.differing.Unplanned.{Unplanned}
use Rattle.book_desk_questions.specs.declared.differing.Unplanned.TheVariants as unplanned
use Rattle.book_wire_serving.specs.Serving.{StandsStill}

abbrev pub plan_failure : PlanFault → Failure
plan_failure plans.Full = Adoption (record { fault = adopting.Full })
plan_failure (plans.Store fault) = Store (store_failure fault)

abbrev pub unplanned_failure : Unplanned → Failure
unplanned_failure (unplanned.Fault fault) = plan_failure fault
unplanned_failure unplanned.Output = Output

-- the text of what would change says that nothing would
abbrev pub is_unchanged : List ℕ → Bool
is_unchanged changes = bytes_eq changes (codes "unchanged\n")

-- the status where it is written
abbrev pub differs_status : Bool → Bool → ℕ
differs_status strict changes = cond (strict && changes) 1 0

-- what was told of the Office, or why not
abbrev pub TellsOf : Standing → Standing → PolicyTables → Result Planned PlanFault → Type 0
TellsOf old new policy result = Plans old new policy result (λ o told. IsPlan o policy told)

-- what it would leave and what it would change were written, and whether it would change something; or why not
abbrev pub WritesPlan : Standing → Standing → PolicyTables → Option (List ℕ) → Option (List ℕ) → Result Bool Unplanned → Type 0
WritesPlan old new policy held holds (Ok changes) =
    (told : Planned) × TellsOf old new policy (Ok told) × Appends held holds (told.stays ++ told.changes) × (changes ≡ not (is_unchanged told.changes))
WritesPlan old new policy held holds (Err (unplanned.Fault fault)) = TellsOf old new policy (Err fault) × Keeps held holds
WritesPlan old new policy held holds (Err unplanned.Output) = (told : Planned) × TellsOf old new policy (Ok told)

-- it was written; or it was not, with the status of what was told. With how a failure is told, that nothing is, and the status
abbrev pub EndsPlan : (List ℕ → Type 0) → Type 0 → PolicyTables → Bool → Standing → Option (List ℕ) → Option (List ℕ) → ℕ → Standing → Type 0
EndsPlan Told Silent policy strict old held holds status new =
    ((changes : Bool) × WritesPlan old new policy held holds (Ok changes) × (status ≡ differs_status strict changes) × Silent)
    ⊎ ((fault : Unplanned) × WritesPlan old new policy held holds (Err fault) × (status ≡ failure_status (unplanned_failure fault))
    × Told (failure_text (unplanned_failure fault)))

-- the bytes are no policy, which was told, and the Office was not read; or it was told of the policy
abbrev pub DiffersBy : (List ℕ → Type 0) → Type 0 → List ℕ → Bool → Standing → Option (List ℕ) → Option (List ℕ) → ℕ → Standing → Type 0
DiffersBy Told Silent bytes strict old held holds status new =
    ((failure : Failure) × GivesNoPolicy bytes failure × (status ≡ failure_status failure) × StandsStill old new × Keeps held holds × Told (failure_text failure))
    ⊎ ((policy : PolicyTables) × SpellsPolicy bytes policy × EndsPlan Told Silent policy strict old held holds status new)

-- ---- a run over a store
module _ {C K : Type 0} (state : C → State) (connection : K → C) (failures : K → ℕ) (Told : List ℕ → Type 0) (Silent : Type 0) where
  abbrev pub DiffersOver : PolicyTables → Bool → K → Option (List ℕ) → Option (List ℕ) → ℕ → K → Type 0
  DiffersOver policy strict old held holds status new =
      EndsPlan Told Silent policy strict (standing_in state connection failures old) held holds status (standing_in state connection failures new)

  -- the tables of the store were not had; or it was told over them
  abbrev pub DiffersIn : (C → StoreFailure → Type 0) → PolicyTables → Bool → C → Option (List ℕ) → Option (List ℕ) → ℕ → Option C → Type 0
  DiffersIn is_not_had policy strict store held holds status back =
      ((failure : StoreFailure) × is_not_had store failure × (status ≡ 3) × (back ≡ None) × Keeps held holds × Told (store_text failure))
      ⊎ ((old : K) × (new : K) × AreTablesOf state connection failures store old × DiffersOver policy strict old held holds status new
      × (back ≡ Some (connection new)))

  -- the bytes are no policy, and the store was not touched; or it was told of the policy
  abbrev pub RunsDiffers : (C → StoreFailure → Type 0) → List ℕ → Bool → C → Option (List ℕ) → Option (List ℕ) → ℕ → Option C → Type 0
  RunsDiffers is_not_had bytes strict store held holds status back =
      ((failure : Failure) × GivesNoPolicy bytes failure × (status ≡ failure_status failure) × (back ≡ Some store) × Keeps held holds × Told (failure_text failure))
      ⊎ ((policy : PolicyTables) × SpellsPolicy bytes policy × DiffersIn is_not_had policy strict store held holds status back)
