-- What the machine does for one request.
use Rattle.std.specs.Prelude.{◌≡◌, ◌⊎◌, ℕ, List, Option, Some, None, Result, Ok, Err}
use Rattle.book_office.specs.Edits.{apply}
use Rattle.book_office.specs.declared.edits.Edit.{Edit}
use Rattle.book_office_values.specs.declared.offices.Office.{Office}
use Rattle.book_machine.specs.Refusals.{refused}
use Rattle.book_machine.specs.Stages.{ready_of, IsGrantedPlan}
use Rattle.book_machine.specs.Verdicts.{IsGranted, IsDenied}
use Rattle.book_machine.specs.declared.messages.Reply.{Reply}
use Rattle.book_machine.specs.declared.messages.Request.{Request}
use Rattle.book_machine.specs.declared.plans.Plan.{Plan}
use Rattle.book_machine.specs.Targets.{Ready}
use Rattle.book_office_listings.specs.declared.messages.Denial.{Denial}
use Rattle.book_machine.specs.declared.refusals.Refusal.{Refusal}
use Rattle.book_machine.specs.declared.refusals.Refusal.TheVariants.{NeedPrivileges, Unavailable}

-- where each need is granted the request goes on; else the denial is its refusal
abbrev pub IsDecided : Office → Ready → Result Plan Refusal → Type 0
IsDecided o ready result = ((granted : IsGranted o ready) × IsGrantedPlan o granted.circle ready result)
    ⊎ ((denial : Denial) × IsDenied o ready denial × (result ≡ Err (NeedPrivileges denial)))

-- the first stage that refuses decides
abbrev pub IsPlannedFrom : Office → Result Ready Refusal → Result Plan Refusal → Type 0
IsPlannedFrom o (Err refusal) result = result ≡ Err refusal
IsPlannedFrom o (Ok ready) result = IsDecided o ready result

-- what is to be done for a request: caller, shape, path, verdict, body, limits, success
abbrev pub IsPlan : Office → Option (List ℕ) → Request → Result Plan Refusal → Type 0
IsPlan o name request result = IsPlannedFrom o (ready_of o name request) result

-- the Office after an edit, if there is one
abbrev pub apply_any : Office → Option Edit → Office
apply_any o None = o
apply_any o (Some edit) = apply o edit

-- the reply and the Office after it
abbrev pub settled : Office → Result Plan Refusal → Reply × Office
settled o (Ok plan) = (plan.reply, apply_any o plan.edit)
settled o (Err refusal) = (refused refusal, o)

-- one step of the machine
abbrev pub Steps : Office → Option (List ℕ) → Request → Reply → Office → Type 0
Steps o name request reply after = (result : Result Plan Refusal) × IsPlan o name request result × ((reply, after) ≡ settled o result)

-- a step, or want of memory or a failed store with the Office as it was
abbrev pub Serves : Office → Option (List ℕ) → Request → Reply → Office → Type 0
Serves o name request reply after = Steps o name request reply after ⊎ ((reply ≡ refused Unavailable) × (after ≡ o))
