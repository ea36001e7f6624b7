-- Adopting a policy, and what is written of it (own profile).
use Rattle.std.specs.Prelude.{◌≡◌, ◌⊎◌, ℕ, List, ◌++◌, codes, decimal, Bool, true, false, Option, Some, None, Ok, Err}
use Rattle.std.specs.Io.KnownBytes.{Appends, Keeps}
use Rattle.book_machine.specs.Promises.{AdoptPromise}
use Rattle.book_machine.specs.declared.adoptions.Adopted.{Adopted}
use Rattle.book_office.specs.Keeping.{Standing}
use Rattle.book_policy_values.specs.declared.parts.PolicyTables.{PolicyTables}
use Rattle.book_desk_app.specs.declared.serving_failures.AdoptionFailure.{AdoptionFailure}
use Rattle.book_wire_serving.specs.Serving.{StandsStill}
use Rattle.book_desk_app.specs.declared.failures.Failure.{Failure}
use Rattle.book_desk_app.specs.declared.failures.Failure.TheVariants.{Output, Adoption}

-- the machine adopted the policy
abbrev pub Adoptions : Standing → PolicyTables → Standing → Type 0
Adoptions old policy new = (adopted : Adopted) × AdoptPromise old new policy (Ok adopted)

-- it did not, and the failure tells why
abbrev pub RefusesPolicy : Standing → PolicyTables → Failure → Standing → Type 0
RefusesPolicy old policy failure new =
    (adoption : AdoptionFailure) × (failure ≡ Adoption adoption) × AdoptPromise old new policy (Err adoption.fault)

-- ---- the policy that is adopted first

-- nothing was done where none is given
abbrev pub AdoptsGiven : Standing → Option PolicyTables → Standing → Type 0
AdoptsGiven old None new = StandsStill old new
AdoptsGiven old (Some policy) new = Adoptions old policy new

abbrev pub FailsToAdopt : Standing → Option PolicyTables → Failure → Standing → Type 0
FailsToAdopt old None failure new = ⊥
FailsToAdopt old (Some policy) failure new = RefusesPolicy old policy failure new

-- ---- `import`

abbrev pub change_word : Bool → List ℕ
change_word true = codes "changed"
change_word false = codes "unchanged"

-- whether the Office differs from before, and the epoch
abbrev pub import_line : Adopted → List ℕ
import_line adopted = change_word adopted.changed ++ (codes ", epoch " ++ (decimal adopted.epoch ++ codes "\n"))

-- the machine adopted the policy, and what was written is its answer
abbrev pub Imports : Standing → PolicyTables → Option (List ℕ) → Option (List ℕ) → Standing → Type 0
Imports old policy held holds new =
    (adopted : Adopted) × AdoptPromise old new policy (Ok adopted) × Appends held holds (import_line adopted)

-- the policy was refused and nothing was written, or it was adopted and its answer could not be written
abbrev pub FailsToImport : Standing → PolicyTables → Failure → Option (List ℕ) → Option (List ℕ) → Standing → Type 0
FailsToImport old policy failure held holds new =
    (RefusesPolicy old policy failure new × Keeps held holds)
    ⊎ ((failure ≡ Output) × Adoptions old policy new)
