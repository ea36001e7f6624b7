-- A synced copy is the readable book, in every run of the machine (RFC 6578, section 3; that no report is told by a
-- token from before a change of access is own profile).
use Rattle.std.specs.Prelude.{◌≡◌, ◌⊎◌, ℕ, ◌<◌, false, suc, List, drop, slice_get, Option, Some, None, Ok}
use Rattle.std.specs.FinMap.{empty}
use Rattle.book_rights.specs.declared.methods.Method.TheVariants.{Report as ReportMethod}
use Rattle.book_lists.specs.Callers.{IsCircle}
use Rattle.book_lists.specs.Circles.{CircleOf}
use Rattle.book_office_values.specs.Names.{NamesTo}
use Rattle.book_office_values.specs.declared.offices.Office.{Office}
use Rattle.book_office_values.specs.declared.paths.Path.TheVariants as path
use Rattle.book_office.specs.Keeping.{Standing}
use Rattle.book_office_sync.specs.Copies.{Right, IsView, sync, patch}
use Rattle.book_office_sync.specs.SyncedRuns.{CopySteps, Finds, IsReportAt}
use Rattle.book_office_sync.specs.declared.messages.Report.{Report}
use Rattle.book_office_sync.specs.declared.messages.Seen.{Seen}
use Rattle.book_office_sync.specs.declared.messages.Token.{Token}
use Rattle.book_machine.specs.Agreement.{named}
use Rattle.book_machine.specs.Asking.{IsWellFormed}
use Rattle.book_machine.specs.Refusals.{refused}
use Rattle.book_machine.specs.Runs.{Call}
use Rattle.book_machine.specs.Stages.{ready_of}
use Rattle.book_machine.specs.Steps.{Steps as IsStep, Serves}
use Rattle.book_machine.specs.Verdicts.{IsGranted}
use Rattle.book_machine.specs.declared.messages.Body.TheVariants as body
use Rattle.book_machine.specs.declared.messages.Content.TheVariants as content
use Rattle.book_machine.specs.declared.messages.Reply.{Reply}
use Rattle.book_machine.specs.declared.messages.ReportKind.TheVariants.{SyncCollection}
use Rattle.book_machine.specs.declared.messages.Request.{Request}
use Rattle.book_machine.specs.declared.messages.SyncFrom.{SyncFrom}
use Rattle.book_machine.specs.declared.messages.SyncFrom.TheVariants.{Start, After}
use Rattle.book_machine.specs.declared.messages.SyncRequest.{SyncRequest}
use Rattle.book_machine.specs.Targets.{Ready}
use Rattle.book_machine.specs.declared.refusals.Refusal.TheVariants.{ValidSyncToken, Unavailable}

-- a request for the report on a book by a token, or from the start, with at most so many items
abbrev pub from_of : Option Token → SyncFrom
from_of None = Start
from_of (Some token) = After token

abbrev pub asking : Option Token → Option ℕ → SyncRequest
asking token limit = record { from = from_of token; limit = limit }

pub record AsksReport (request : Request) (b : List ℕ) (token : Option Token) (limit : Option ℕ) : Type 0 where
  pub is_report : request.method ≡ ReportMethod
  pub of_book : request.path ≡ Some (path.Book b)
  pub of_changes : request.body ≡ body.Report (SyncCollection (asking token limit))

-- the reply to such a request whose needs are granted: the report, where the token is valid
abbrev pub sync_reply : Option Report → Reply
sync_reply None = refused ValidSyncToken
sync_reply (Some report) = record { status = 207; content = content.Synced report }

-- a request for a report that is granted is told the report on the Office that it finds, or that its token is not valid,
-- and changes nothing
abbrev pub GrantedReportsAreTold : Type 0
GrantedReportsAreTold = (o : Office) (name : Option (List ℕ)) (request : Request) (reply : Reply) (after : Office) (b : List ℕ) (token : Option Token) (limit : Option ℕ) (ready : Ready)
    → AsksReport request b token limit → ready_of o name request ≡ Ok ready → (granted : IsGranted o ready) → IsStep o name request reply after
    → (reply ≡ sync_reply (sync o granted.circle b token limit)) × (after ≡ o)

-- a call for the report on a book by a token, or from the start, with at most so many items, and its reply with this report
pub record IsReported (call : Call) (reply : Reply) (b : List ℕ) (token : Option Token) (limit : Option ℕ) (report : Report) : Type 0 where
  pub asked : AsksReport call.1 b token limit
  pub is_told : reply ≡ sync_reply (Some report)

-- the steps of the machine, as far as copies ask
abbrev pub machine_steps : CopySteps
machine_steps = record {
  Call = Call;
  Reply = Reply;
  IsCall = λ call. IsWellFormed call.1;
  Serves = λ o call reply after. Serves o call.0 call.1 reply after;
  caller = λ call. call.0;
  IsCircle = λ pairs name circle. IsCircle pairs (named name) circle;
  IsReported = λ call reply b token limit report. IsReported call reply b token limit report;
}

module _ (p : Office) (calls : List Call) (replies : List Reply) (i : ℕ) where
  -- the call at this place finds the Office and has this reply
  pub record IsServedAt (call : Call) (reply : Reply) : Type 0 where
    pub after : Office
    pub is_call : slice_get calls i ≡ Some call
    pub is_reply : slice_get replies i ≡ Some reply
    pub served : Serves p call.0 call.1 reply after

  -- the caller of this name is told the report on the book, in the call at this place, which finds the Office
  abbrev pub IsToldAt : Option (List ℕ) → List ℕ → Option Token → Option ℕ → Report → Type 0
  IsToldAt name b token limit report = IsReportAt machine_steps p calls replies i name b token limit report

module _ (o : Office) (calls : List Call) (replies : List Reply) where
  -- the Office that the call at this place of a run from `o` finds
  abbrev pub FindsAt : ℕ → Office → Type 0
  FindsAt i p = Finds machine_steps o calls replies i p

  -- the Office that the call so many places after it finds, where the one at place i finds `p`
  abbrev pub FindsAfter : Office → ℕ → ℕ → Office → Type 0
  FindsAfter p i k q = Finds machine_steps p (drop i calls) (drop i replies) (suc k) q

  -- a report by the token of an earlier one, to the same caller: what was right by the earlier, patched by the later,
  -- is right by the later, and it is what the caller may read of the book where the later report is not truncated,
  -- whatever limits the two have
  abbrev pub ReportsFollow : Type 0
  ReportsFollow = (p q : Office) (i k : ℕ) (name : Option (List ℕ)) (b : List ℕ) (token : Option Token) (limit most : Option ℕ) (first second : Report)
      → FindsAt i p → FindsAfter p i k q
      → IsToldAt p calls replies i name b token limit first → IsToldAt q (drop i calls) (drop i replies) (suc k) name b (Some first.token) most second
      → (circle : CircleOf) × IsCircle p.pairs (named name) circle × IsCircle q.pairs (named name) circle
      × ((copy : NamesTo Seen) → Right copy p circle b first.token.number
      → Right (patch copy second.items) q circle b second.token.number × (second.truncated ≡ false → IsView (patch copy second.items) q circle b))

  -- an initial report: the empty copy, patched by it, is right by it, and it is what the caller may read of the book
  -- where the report is not truncated
  abbrev pub ReportsBegin : Type 0
  ReportsBegin = (p : Office) (i : ℕ) (name : Option (List ℕ)) (b : List ℕ) (limit : Option ℕ) (report : Report)
      → FindsAt i p → IsToldAt p calls replies i name b None limit report
      → (circle : CircleOf) × IsCircle p.pairs (named name) circle
      × Right (patch empty report.items) p circle b report.token.number × (report.truncated ≡ false → IsView (patch empty report.items) p circle b)

  -- a token of a report ends with the epoch: a later request by it, of any caller on any book and with any limit, that finds a
  -- greater epoch and whose needs are granted is refused by valid-sync-token, or unavailable
  abbrev pub TokensAreEnded : Type 0
  TokensAreEnded = (p q : Office) (i k : ℕ) (name : Option (List ℕ)) (b other : List ℕ) (token : Option Token) (limit most : Option ℕ) (first : Report) (call : Call) (reply : Reply) (ready : Ready)
      → FindsAt i p → FindsAfter p i k q
      → IsToldAt p calls replies i name b token limit first → p.epoch < q.epoch
      → IsServedAt q (drop i calls) (drop i replies) (suc k) call reply → AsksReport call.1 other (Some first.token) most
      → ready_of q call.0 call.1 ≡ Ok ready → IsGranted q ready
      → (reply ≡ refused ValidSyncToken) ⊎ (reply ≡ refused Unavailable)

-- in each run of these calls and replies from an Office for which the keeper stands, copies that are kept by reports
-- are what their callers may read, whatever others ask in between
pub record Synced (standing : Standing) (calls : List Call) (replies : List Reply) : Type 0 where
  pub follow : (o : Office) → standing.stands o → ReportsFollow o calls replies
  pub begin : (o : Office) → standing.stands o → ReportsBegin o calls replies
  pub end : (o : Office) → standing.stands o → TokensAreEnded o calls replies
