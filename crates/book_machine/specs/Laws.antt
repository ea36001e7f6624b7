-- What the definition of a step implies, in words of its own.
use Rattle.std.specs.Prelude.{Bool, true, false, ◌≡◌, ◌≢◌, ◌⊎◌, ◌↔◌, ℕ, ◌+◌, ◌<◌, suc, List, ◌∷◌, slice_get, Option, Some, Ok}
use Rattle.book_office_values.specs.declared.offices.Office.{Office}
use Rattle.book_office.specs.Edits.{apply}
use Rattle.book_office.specs.Keeping.{in_memory}
use Rattle.book_office.specs.Sound.{IsSound}
use Rattle.book_office.specs.declared.edits.Edit.{Edit}
use Rattle.book_office_listings.specs.Laws.{TellsFirst}
use Rattle.book_office_listings.specs.declared.messages.Response.{Response}
use Rattle.book_rights.specs.declared.methods.Method.TheVariants as method
use Rattle.book_office_values.specs.declared.paths.Path.{Path}
use Rattle.book_machine.specs.Asking.{IsWellFormed}
use Rattle.book_machine.specs.LeadingRuns.{AreWellFormed}
use Rattle.book_machine.specs.Refusals.{refused}
use Rattle.book_machine.specs.Runs.{Call, Run}
use Rattle.book_machine.specs.Stages.{ready_of, IsBodyAnswer, IsSuccess}
use Rattle.book_machine.specs.Steps.{Steps}
use Rattle.book_machine.specs.SyncedCopies.{FindsAt, FindsAfter, Synced}
use Rattle.book_machine.specs.Verdicts.{IsGranted, IsDenied}
use Rattle.book_machine.specs.declared.messages.Content.TheVariants as content
use Rattle.book_machine.specs.declared.messages.Reply.{Reply}
use Rattle.book_machine.specs.declared.messages.Request.{Request}
use Rattle.book_machine.specs.declared.plans.Plan.{Plan}
use Rattle.book_machine.specs.Targets.{Ready}
use Rattle.book_office_listings.specs.declared.messages.Denial.{Denial}
use Rattle.book_machine.specs.declared.refusals.Refusal.{Refusal}
use Rattle.book_machine.specs.declared.refusals.Refusal.TheVariants.{BadRequest, UnknownCaller, BadCard, NeedPrivileges, NoProtectedAceConflict, NoInheritedAceConflict, LimitedNumberOfAces, NotSupportedPrivilege, RecognizedPrincipal, ValidSyncToken, NotFound, NotAllowed, NoParent, Overwrite, BodyOnMkcol, Full, Unavailable}

-- a request finds one reply and one Office after it
abbrev pub RequestsHaveOneStep : Type 0
RequestsHaveOneStep = (o : Office) (name : Option (List ℕ)) (request : Request) (reply other : Reply) (after later : Office)
    → Steps o name request reply after → Steps o name request other later → (reply ≡ other) × (after ≡ later)

-- in each Office each request has a step
abbrev pub StepsExist : Type 0
StepsExist = (o : Office) (name : Option (List ℕ)) (request : Request) → (reply : Reply) × (after : Office) × Steps o name request reply after

-- the refusals that come after the verdict, by the body, by the token of a report or by the limits, and no others
abbrev pub is_late : Refusal → Bool
is_late BadRequest = false
is_late UnknownCaller = false
is_late (BadCard fault) = true
is_late (NeedPrivileges denial) = false
is_late NoProtectedAceConflict = true
is_late NoInheritedAceConflict = true
is_late LimitedNumberOfAces = true
is_late NotSupportedPrivilege = true
is_late RecognizedPrincipal = true
is_late ValidSyncToken = true
is_late NotFound = false
is_late (NotAllowed methods) = false
is_late NoParent = false
is_late Overwrite = false
is_late BodyOnMkcol = false
is_late Full = true
is_late Unavailable = false

-- a success, or a refusal that comes after the verdict
abbrev pub IsPastVerdict : Reply → Type 0
IsPastVerdict reply = (reply.status < 300) ⊎ ((refusal : Refusal) × (is_late refusal ≡ true) × (reply ≡ refused refusal))

-- among the requests that pass caller, shape and path, those whose needs are granted, and no others, get past the verdict
abbrev pub RequestsActWhereGranted : Type 0
RequestsActWhereGranted = (o : Office) (name : Option (List ℕ)) (request : Request) (ready : Ready) (reply : Reply) (after : Office)
    → ready_of o name request ≡ Ok ready → Steps o name request reply after
    → IsGranted o ready ↔ IsPastVerdict reply

-- the others are told the denial, which is the one of the verdict
abbrev pub DenialsAreTold : Type 0
DenialsAreTold = (o : Office) (name : Option (List ℕ)) (request : Request) (ready : Ready) (reply : Reply) (after : Office) (denial : Denial)
    → ready_of o name request ≡ Ok ready → Steps o name request reply after
    → IsDenied o ready denial ↔ (reply ≡ refused (NeedPrivileges denial))

-- a refusal leaves the Office as it was
abbrev pub RefusalsChangeNothing : Type 0
RefusalsChangeNothing = (o : Office) (name : Option (List ℕ)) (request : Request) (refusal : Refusal) (after : Office)
    → Steps o name request (refused refusal) after → after ≡ o

-- a reply with a content changed nothing
abbrev pub TellingRepliesChangeNothing : Type 0
TellingRepliesChangeNothing = (o : Office) (name : Option (List ℕ)) (request : Request) (reply : Reply) (after : Office)
    → Steps o name request reply after → reply.content ≢ content.Empty → after ≡ o

-- a step is never unavailable, which is told where memory was refused or the store failed, and only there
abbrev pub StepsAreAvailable : Type 0
StepsAreAvailable = (o : Office) (name : Option (List ℕ)) (request : Request) (after : Office) → Steps o name request (refused Unavailable) after → ⊥

-- a request that is granted, with a body that is accepted, is refused as full exactly where its edit would leave an Office beyond a limit
abbrev pub RequestsAreFullAtLimits : Type 0
RequestsAreFullAtLimits = (o : Office) (name : Option (List ℕ)) (request : Request) (ready : Ready) (edit : Edit) (reply : Reply) (after : Office)
    → IsSound o → IsWellFormed request → ready_of o name request ≡ Ok ready → (granted : IsGranted o ready)
    → IsBodyAnswer o ready.asked ready.target.path (Ok tt) → (plan : Plan) → IsSuccess o granted.circle ready (Ok plan) → plan.edit ≡ Some edit → Steps o name request reply after
    → (reply ≡ refused Full) ↔ (IsSound (apply o edit) → ⊥)

-- the first response to a PROPFIND tells the resource that was asked for: where that may not be told, the request is denied
abbrev pub ListingsTellTheResource : Type 0
ListingsTellTheResource = (o : Office) (name : Option (List ℕ)) (request : Request) (p : Path) (reply : Reply) (responses : List Response) (after : Office)
    → request.method ≡ method.Propfind → request.path ≡ Some p → Steps o name request reply after
    → reply.content ≡ content.Listing responses → TellsFirst p responses

-- the call at a place of a run finds the Office that the calls before it left, and from there so does each later one
abbrev pub FindsItsOffices : Office → List Call → List Reply → List Office → Type 0
FindsItsOffices o calls replies offices = (i : ℕ) (p : Office) → slice_get (o ∷ offices) i ≡ Some p
    → FindsAt o calls replies i p × ((k : ℕ) (q : Office) → slice_get (o ∷ offices) (i + suc k) ≡ Some q → FindsAfter o calls replies p i k q)

-- in each run from a sound Office, copies that are kept by reports are what their callers may read, whatever others ask in
-- between, and the tokens end with the epoch
abbrev pub RunsAreSynced : Type 0
RunsAreSynced = (o : Office) (calls : List Call) (replies : List Reply) (offices : List Office)
    → IsSound o → AreWellFormed calls → Run o calls replies offices
    → FindsItsOffices o calls replies offices × Synced (in_memory o) calls replies
