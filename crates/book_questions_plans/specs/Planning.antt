-- What adopting a policy would leave and change (own profile), and what a call does that tells it.
use Rattle.std.specs.Prelude.{◌≡◌, ℕ, Result, Ok, Err}
use Rattle.book_machine.specs.Adoptions.{HasRoomFor}
use Rattle.book_office.specs.Keeping.{FallsBack, Leftover, Standing, failures_after_fault}
use Rattle.book_office_adopting.specs.Adopting.{adopt}
use Rattle.book_office_values.specs.declared.offices.Office.{Office}
use Rattle.book_policy_values.specs.declared.parts.PolicyTables.{PolicyTables}
use Rattle.book_questions_changes.specs.Changes.{IsChanges}
use Rattle.book_questions_stays.specs.Stays.{IsStays}
use Rattle.book_questions_plans.specs.declared.faults.PlanFault.{PlanFault}
use Rattle.book_questions_plans.specs.declared.faults.PlanFault.TheVariants.{Full, Store}
use Rattle.book_questions_plans.specs.declared.planning.Planned.{Planned}

-- what the policy does not name, and how an Office differs from another
abbrev pub IsPlanTo : Office → PolicyTables → Office → Planned → Type 0
IsPlanTo o t after plan = IsStays o t plan.stays × IsChanges o after plan.changes

-- how it differs from the one that adopts the policy
abbrev pub IsPlan : Office → PolicyTables → Planned → Type 0
IsPlan o t plan = IsPlanTo o t (adopt t o) plan

-- something is told of an Office that adopts a policy; or it would not adopt it
abbrev pub TellsPlan : {A : Type 0} → PolicyTables → Office → (Office → A → Type 0) → Result A PlanFault → Type 0
TellsPlan t o Tells (Ok x) = HasRoomFor t o × Tells o x
TellsPlan t o Tells (Err Full) = HasRoomFor t o → ⊥
TellsPlan t o Tells (Err (Store fault)) = Unit {0}

abbrev pub failures_after_plan : {A : Type 0} → Result A PlanFault → ℕ → ℕ
failures_after_plan (Ok x) n = n
failures_after_plan (Err Full) n = n
failures_after_plan (Err (Store fault)) n = failures_after_fault fault n

-- a reading tells something of an Office that adopts a policy, and leaves it as it was
pub record Plans {A : Type 0} (old new : Standing) (t : PolicyTables) (result : Result A PlanFault) (Tells : Office → A → Type 0) : Type 0 where
  pub was_honest : new.honest → old.honest
  pub falls : FallsBack old.fallback new.fallback
  pub told : new.honest → (o : Office) → old.stands o → TellsPlan t o Tells result
  pub kept : new.honest → (o : Office) → old.stands o → new.stands o
  pub left : new.honest → (x : Leftover) → new.left x → old.left x
  pub counted : new.failures ≡ failures_after_plan result old.failures
