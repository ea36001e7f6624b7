-- What a service does where the bytes of a policy are put in force over its Office (own profile).
use Rattle.std.specs.Prelude.{◌≡◌, ◌⊎◌, ℕ, Bool, true, false, List, [], Option, Result, Ok, Err}
use Rattle.std.specs.Io.KnownBytes.{Appends, Keeps}
use Rattle.book_machine.specs.declared.adoptions.AdoptFault.{AdoptFault}
use Rattle.book_machine.specs.declared.adoptions.Adopted.{Adopted}
use Rattle.book_policy_values.specs.declared.parts.PolicyTables.{PolicyTables}
use Rattle.book_wire_serving.specs.Serving.{Runs, Serving}
use Rattle.book_wire_steps.specs.Steps.{AdoptsNow}
use Rattle.book_desk_app.specs.Failures.{adopt_status}
use Rattle.book_desk_app.specs.Imports.{import_line}
use Rattle.book_desk_app.specs.Policies.{SpellsPolicy}
use Rattle.book_desk_app.specs.Failures.{log_failure}
use Rattle.book_desk_app.specs.Telling.{TellsFailure}
use Rattle.book_desk_app.specs.declared.failures.Failure.{Failure}
use Rattle.book_desk_app.specs.declared.failures.Failure.TheVariants.{Adoption, Output}
use Rattle.book_desk_checks.specs.Checking.{TellsNoPolicy}

-- What is told of an adoption, and the status: its answer is written as `import` writes it, or that could not be written, or its line
-- could not be noted; or it was refused. With how a failure is told, that none is, and whether the log has failed then
abbrev pub TellsAdoption : (Failure → Type 0) → Type 0 → Bool → Option (List ℕ) → Option (List ℕ) → ℕ → Result Adopted AdoptFault → Type 0
TellsAdoption Told Silent failed held holds status (Ok adopted) =
    ((status ≡ 0) × (failed ≡ false) × Appends held holds (import_line adopted) × Silent)
    ⊎ ((status ≡ 3) × (failed ≡ false) × Told Output)
    ⊎ ((status ≡ 3) × (failed ≡ true) × Keeps held holds × Told log_failure)
TellsAdoption Told Silent failed held holds status (Err fault) =
    (status ≡ adopt_status fault) × Keeps held holds × Told (Adoption (record { fault = fault }))

-- over services with what they stand for: what one held and holds of what is written and of what is told, and whether each text so far
-- was told to its end
module _ {M : Type 0} (serving : M → Serving) (bytes : List ℕ) (is_whole : Bool) (errors_held errors_hold : Option (List ℕ)) where
  -- the Office was read at most
  abbrev pub OnlyReads : M → M → Type 0
  OnlyReads old new = Runs (serving old) (serving new) []

  -- the policy that the bytes spell was adopted, or refused, and that was told
  abbrev pub Adopts : M → Option (List ℕ) → Option (List ℕ) → ℕ → M → Type 0
  Adopts old held holds status new =
      (policy : PolicyTables) × SpellsPolicy bytes policy × (outcome : Result Adopted AdoptFault) × AdoptsNow serving old new policy outcome
      × TellsAdoption (TellsFailure is_whole errors_held errors_hold) (Keeps errors_held errors_hold) (serving new).log.failed held holds status outcome

  -- Or nothing was done: what the bytes have in place of a policy was told; or the log had failed before, which was told.
  abbrev pub PutsPolicy : M → Option (List ℕ) → Option (List ℕ) → ℕ → M → Type 0
  PutsPolicy old held holds status new =
      Adopts old held holds status new
      ⊎ (TellsNoPolicy bytes is_whole errors_held errors_hold status × Keeps held holds × OnlyReads old new)
      ⊎ ((status ≡ 3) × ((serving old).log.failed ≡ true) × TellsFailure is_whole errors_held errors_hold log_failure × Keeps held holds × OnlyReads old new)
