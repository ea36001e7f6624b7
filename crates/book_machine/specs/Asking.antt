-- What the machine does with its keeper, for a stage of a request and for the whole of it.
use Rattle.std.specs.Prelude.{◌≡◌, ◌⊎◌, ◌↔◌, ℕ, Bool, IsTrue, List, Option, Some, None, Result, Ok, Err}
use Rattle.std.specs.List.{AllZip}
use Rattle.std.specs.Prelude.{Vec}
use Rattle.std.specs.Str.{IsUtf8}
use Rattle.std.specs.declared.alloc.Global.{Global}
use Rattle.book_lists.specs.declared.submitted.Submitted.{Submitted}
use Rattle.book_office.specs.Keeping.{FallsBack, Leftover, Standing, one_more}
use Rattle.book_office.specs.declared.edits.Edit.{Edit}
use Rattle.book_office_values.specs.declared.offices.Office.{Office}
use Rattle.book_office_values.specs.declared.paths.Path.{Path}
use Rattle.book_office_values.specs.Paths.{IsPath}
use Rattle.book_machine.specs.Stages.{IsChecked}
use Rattle.book_machine.specs.Steps.{IsPlan}
use Rattle.book_office_listings.specs.Verdicts.{principal_of}
use Rattle.book_machine.specs.declared.machine.Machine.{Machine}
use Rattle.book_machine.specs.declared.messages.Body.{Body}
use Rattle.book_machine.specs.declared.messages.Body.TheVariants as body
use Rattle.book_machine.specs.declared.messages.Patch.TheVariants as patch
use Rattle.book_machine.specs.declared.messages.Request.{Request}
use Rattle.book_machine.specs.declared.plans.Plan.{Plan}
use Rattle.book_machine.specs.declared.refusals.Refusal.{Refusal}
use Rattle.book_machine.specs.declared.refusals.Refusal.TheVariants.{Unavailable}

-- the result is the stage's, or want of memory or a failed store
abbrev pub Meets : {A : Type 0} → Result A Refusal → Result A Refusal → Type 0
Meets (Ok x) stage = stage ≡ Ok x
Meets (Err e) stage = (e ≡ Unavailable) ⊎ (stage ≡ Err e)

-- the same, where the contract sees the value so
abbrev pub MeetsSeen : {A B : Type 0} → (A → B) → Result A Refusal → Result B Refusal → Type 0
MeetsSeen seen (Ok x) stage = stage ≡ Ok (seen x)
MeetsSeen seen (Err e) stage = (e ≡ Unavailable) ⊎ (stage ≡ Err e)

-- the store did not fail, or failed once and the result is unavailable
abbrev pub Counted : {A : Type 0} → Result A Refusal → ℕ → ℕ → Type 0
Counted (Ok x) before after = after ≡ before
Counted (Err e) before after = (after ≡ before) ⊎ ((e ≡ Unavailable) × (after ≡ one_more before))

-- a stage asks the keeper, tells something of the Office by its result, and leaves the Office as it was
pub record Asks {A : Type 0} (old new : Standing) (result : Result A Refusal) (Tells : Office → Result A Refusal → Type 0) : Type 0 where
  pub was_honest : new.honest → old.honest
  pub falls : FallsBack old.fallback new.fallback
  pub tells : new.honest → (o : Office) → old.stands o → Tells o result
  pub kept : new.honest → (o : Office) → old.stands o → new.stands o
  pub left : new.honest → (x : Leftover) → new.left x → old.left x
  pub counted : Counted result old.failures new.failures

-- whether a fact holds, or want of memory or a failed store
abbrev pub TellsWhether : Type 0 → Result Bool Refusal → Type 0
TellsWhether fact (Ok b) = IsTrue b ↔ fact
TellsWhether fact (Err e) = e ≡ Unavailable

-- the path of a principal, or want of memory
abbrev pub PathOf : List ℕ → Result Path Refusal → Type 0
PathOf principal (Ok p) = principal_of p ≡ Some principal
PathOf principal (Err e) = e ≡ Unavailable

-- a list as it is checked, or want of memory or a failed store
abbrev pub TellsChecked : Office → List Submitted → Result (List Submitted) Refusal → Type 0
TellsChecked o list (Ok checked) = AllZip (IsChecked o) list checked
TellsChecked o list (Err e) = e ≡ Unavailable

abbrev pub TellsCheckedEntry : Office → Submitted → Result Submitted Refusal → Type 0
TellsCheckedEntry o entry (Ok checked) = IsChecked o entry checked
TellsCheckedEntry o entry (Err e) = e ≡ Unavailable

-- a vector of the stage's items, or want of memory or a failed store
abbrev pub MeetsItems : {A : Type 0} → Result (Vec A Global) Refusal → List A → Type 0
MeetsItems (Ok vec) items = vec.items ≡ items
MeetsItems (Err e) items = e ≡ Unavailable

-- a stage of a machine asks its keeper, by what that stands for
abbrev pub StageAsks : {K A : Type 0} → (K → Standing) → Machine K → Machine K → Result A Refusal → (Office → Result A Refusal → Type 0) → Type 0
StageAsks standing old new result Tells = Asks (standing old.keeper) (standing new.keeper) result Tells

-- the result is one of a stage that may answer more than one, or want of memory or a failed store
abbrev pub MeetsAny : {A : Type 0} → (Result A Refusal → Type 0) → Result A Refusal → Type 0
MeetsAny Is (Ok x) = Is (Ok x)
MeetsAny Is (Err e) = (e ≡ Unavailable) ⊎ Is (Err e)

-- the result is a plan of the request, or want of memory or a failed store
abbrev pub MeetsPlan : Office → Option (List ℕ) → Request → Result Plan Refusal → Type 0
MeetsPlan o name request result = MeetsAny (IsPlan o name request) result

-- the names of a path are names
abbrev pub HasPath : Option Path → Type 0
HasPath None = Unit {0}
HasPath (Some p) = IsPath p

-- the text of a card and a label are UTF-8
abbrev pub HasTexts : Body → Type 0
HasTexts body.Empty = Unit {0}
HasTexts (body.Text text) = IsUtf8 text
HasTexts (body.Find properties) = Unit {0}
HasTexts (body.Patch (patch.DisplayName label)) = IsUtf8 label
HasTexts (body.Patch (patch.GroupMembers members)) = Unit {0}
HasTexts (body.List list) = Unit {0}
HasTexts (body.Report report) = Unit {0}
HasTexts body.Unread = Unit {0}

-- the names of the paths of a request are names, and the texts of its body are UTF-8
pub record IsWellFormed (request : Request) : Type 0 where
  pub path : HasPath request.path
  pub destination : HasPath request.destination
  pub body : HasTexts request.body

-- a plan of the request has the edit
abbrev pub IsPlanned : Office → Option (List ℕ) → Request → Edit → Type 0
IsPlanned o name request edit = (plan : Plan) × IsPlan o name request (Ok plan) × (plan.edit ≡ Some edit)
