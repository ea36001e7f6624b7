-- The task that a work and the bytes of its policy make.
use Rattle.std.specs.Prelude.{◌≡◌, ℕ, List, Option, Some, None}
use Rattle.book_policy_values.specs.declared.parts.PolicyTables.{PolicyTables}
use Rattle.book_desk_app.specs.declared.text_failures.InputFault.TheVariants.{Read}
use Rattle.book_desk_app.specs.Policies.{GivesNoPolicy, SpellsPolicy}
use Rattle.book_desk_app.specs.declared.failures.Failure.{Failure}
use Rattle.book_desk_app.specs.declared.failures.Failure.TheVariants.{Input}
use Rattle.book_desk_serving.specs.declared.tasks.Task.{Task}
use Rattle.book_desk_serving.specs.declared.tasks.Task.TheVariants as tasks
use Rattle.book_desk_serving.specs.declared.works.Work.{Work}
use Rattle.book_desk_serving.specs.declared.works.Work.TheVariants.{Import, Audit, Pipe}

-- over a file's contents, which are bytes
module _ {F : Type 0} (bytes : F → List ℕ) where
  -- there is a policy exactly where there is a file, which spells it
  abbrev pub IsGiven : Option F → Option PolicyTables → Type 0
  IsGiven None policy = policy ≡ None
  IsGiven (Some file) given = (policy : PolicyTables) × (given ≡ Some policy) × SpellsPolicy (bytes file) policy

  -- there is a file, which spells no policy
  abbrev pub IsNotGiven : Option F → Failure → Type 0
  IsNotGiven None failure = ⊥
  IsNotGiven (Some file) failure = GivesNoPolicy (bytes file) failure

  -- the task is the work, with the policy that its file spells
  abbrev pub SpellsTask : Work → Option F → Task → Type 0
  SpellsTask Import None task = ⊥
  SpellsTask Import (Some file) task = (policy : PolicyTables) × (task ≡ tasks.Import policy) × SpellsPolicy (bytes file) policy
  SpellsTask Audit file task = task ≡ tasks.Audit
  SpellsTask Pipe file task = (policy : Option PolicyTables) × (task ≡ tasks.Pipe policy) × IsGiven file policy

  -- the file of the work spells no policy, or there is nothing to import
  abbrev pub GivesNoTask : Work → Option F → Failure → Type 0
  GivesNoTask Import None failure = failure ≡ Input Read
  GivesNoTask Import (Some file) failure = GivesNoPolicy (bytes file) failure
  GivesNoTask Audit file failure = ⊥
  GivesNoTask Pipe file failure = IsNotGiven file failure
