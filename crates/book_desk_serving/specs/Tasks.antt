-- What a task over a store does, and the status that ends it (own profile).
use Rattle.std.specs.Prelude.{◌≡◌, ◌≢◌, ◌⊎◌, ℕ, false, List, Option}
use Rattle.std.specs.Io.KnownBytes.{Keeps}
use Rattle.book_office.specs.Keeping.{Standing}
use Rattle.book_wire_serving.specs.Serving.{Serving}
use Rattle.book_policy_values.specs.declared.parts.PolicyTables.{PolicyTables}
use Rattle.book_desk_app.specs.Audits.{Audits, FailsToAudit}
use Rattle.book_desk_app.specs.Endings.{EndsWith}
use Rattle.book_desk_app.specs.Failures.{failure_status}
use Rattle.book_desk_app.specs.Imports.{AdoptsGiven, FailsToAdopt, Imports, FailsToImport}
use Rattle.book_desk_serving.specs.Streams.{Pipes, StopsToPipe, unlogged}
use Rattle.book_desk_app.specs.declared.failures.Failure.{Failure}
use Rattle.book_desk_serving.specs.declared.tasks.Task.{Task}
use Rattle.book_desk_serving.specs.declared.tasks.Task.TheVariants.{Import, Audit, Pipe}

-- where a failure is told so
module _ (Told : Failure → Type 0) where
  -- the requests were served, and the log has not failed; or the stream stopped with a fault, or the log has failed, which was told
  abbrev pub EndsPipe : Serving → Option (List ℕ) → Option (List ℕ) → Option (List ℕ) → Option (List ℕ) → ℕ → Serving → Type 0
  EndsPipe old before after held holds status new =
      (status ≢ 3 → Pipes old before held holds status new × (new.log.failed ≡ false)) × (status ≡ 3 → StopsToPipe Told old before after held holds new)

-- over a keeper: what was read and is left to read, what the writer held and holds, the status, and the keeper afterwards
module _ (Told : Failure → Type 0) {K : Type 0} (standing : K → Standing) where
  -- the policy was refused, and nothing was read or written; or the requests were served after it
  abbrev pub PipesAfter : Option PolicyTables → K → Option (List ℕ) → Option (List ℕ) → Option (List ℕ) → Option (List ℕ) → ℕ → K → Type 0
  PipesAfter policy old before after held holds status new =
      ((failure : Failure) × (status ≡ failure_status failure) × FailsToAdopt (standing old) policy failure (standing new) × Keeps before after × Keeps held holds
      × Told failure)
      ⊎ ((between : K) × AdoptsGiven (standing old) policy (standing between) × EndsPipe Told (unlogged (standing between)) before after held holds status (unlogged (standing new)))

  abbrev pub Performs : Task → K → Option (List ℕ) → Option (List ℕ) → Option (List ℕ) → Option (List ℕ) → ℕ → K → Type 0
  Performs (Import policy) old before after held holds status new =
      EndsWith Told (Imports (standing old) policy held holds (standing new)) (λ failure. FailsToImport (standing old) policy failure held holds (standing new)) status
      × Keeps before after
  Performs Audit old before after held holds status new =
      EndsWith Told (Audits (standing old) held holds (standing new)) (λ failure. FailsToAudit (standing old) failure held holds (standing new)) status
      × Keeps before after
  Performs (Pipe policy) old before after held holds status new = PipesAfter policy old before after held holds status new
