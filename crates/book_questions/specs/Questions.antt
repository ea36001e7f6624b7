-- What the words of a question ask, and what a question needs.
use Rattle.std.specs.Prelude.{◌≡◌, ◌≢◌, ◌⊎◌, ℕ, Bool, List, [], ◌∷◌, codes, Option, Some, None, option_map, Result, Ok, Err, if◌then◌else◌}
use Rattle.std.specs.Str.{bytes_eq}
use Rattle.book_rights.specs.Privileges.{contained, name_of}
use Rattle.book_rights.specs.declared.methods.Method.{Method}
use Rattle.book_rights.specs.declared.methods.Method.TheVariants as method
use Rattle.book_rights.specs.declared.privileges.Privilege.{Privilege}
use Rattle.book_lists.specs.declared.circles.Caller.TheVariants.{Nobody}
use Rattle.book_office_values.specs.Paths.{IsPath, SpellsPath, SpellsNone}
use Rattle.book_office_values.specs.declared.offices.Office.{Office}
use Rattle.book_office_values.specs.declared.paths.Path.{Path}
use Rattle.book_office_listings.specs.declared.messages.Property.{Property}
use Rattle.book_office_listings.specs.declared.messages.Property.TheVariants.{Acl, CurrentUserPrivilegeSet}
use Rattle.book_machine.specs.Needing.{needed_at, needed_by}
use Rattle.book_machine.specs.declared.messages.Body.{Body}
use Rattle.book_machine.specs.declared.messages.Body.TheVariants as body
use Rattle.book_machine.specs.declared.messages.Depth.TheVariants.{Zero}
use Rattle.book_machine.specs.declared.messages.Flag.TheVariants.{Yes}
use Rattle.book_machine.specs.declared.messages.Patch.TheVariants.{DisplayName}
use Rattle.book_machine.specs.declared.messages.ReportKind.{ReportKind}
use Rattle.book_machine.specs.declared.messages.ReportKind.TheVariants as report
use Rattle.book_machine.specs.declared.messages.Request.{Request}
use Rattle.book_machine.specs.declared.messages.SyncFrom.TheVariants.{Start}
use Rattle.book_machine.specs.declared.needing.Needed.{Needed}
use Rattle.book_machine.specs.declared.refusals.Refusal.{Refusal}
use Rattle.book_machine.specs.declared.refusals.Refusal.TheVariants.{Unavailable}
use Rattle.book_wire_targets.specs.Targets.{method_named}
use Rattle.book_questions.specs.Lines.{why_text}
use Rattle.book_questions.specs.Whys.{IsWhy}
use Rattle.book_questions.specs.declared.questions.Asking.{Asking}
use Rattle.book_questions.specs.declared.questions.Question.{Question}
use Rattle.book_questions.specs.declared.questions.Question.TheVariants.{OfRequest, OfPrivilege}
use Rattle.book_questions.specs.declared.whys.Why.{Why}

-- a body in order for each method; a REPORT has none by itself
abbrev pub usual_body : Method → Body
usual_body method.Get = body.Empty
usual_body method.Head = body.Empty
usual_body method.Options = body.Empty
usual_body method.Put = body.Empty
usual_body method.Propfind = body.Empty
usual_body method.Proppatch = body.Patch (DisplayName [])
usual_body method.Acl = body.List []
usual_body method.Copy = body.Empty
usual_body method.Move = body.Empty
usual_body method.Delete = body.Empty
usual_body method.Mkcol = body.Empty
usual_body method.Report = body.Empty

abbrev pub asks_report : ReportKind → Asking
asks_report which = record { method = method.Report; body = body.Report which }

abbrev pub asks_properties : List Property → Asking
asks_properties properties = record { method = method.Propfind; body = body.Find properties }

abbrev pub asks_usually : Method → Asking
asks_usually m = record { method = m; body = usual_body m }

-- the method that a word names; what a REPORT and a PROPFIND need rests on the body, so that a colon and what tells it follow: a
-- report, of nobody where it is of a caller, or the properties that need more than `read`
abbrev pub asking_named : List ℕ → Option Asking
asking_named w =
    if bytes_eq w (codes "REPORT:sync-collection") then Some (asks_report (report.SyncCollection (record { from = Start; limit = None }))) else (
    if bytes_eq w (codes "REPORT:group-members") then Some (asks_report report.GroupMembers) else (
    if bytes_eq w (codes "REPORT:effective") then Some (asks_report (report.Effective Nobody)) else (
    if bytes_eq w (codes "REPORT:names") then Some (asks_report report.Names) else (
    if bytes_eq w (codes "PROPFIND:acl") then Some (asks_properties (Acl ∷ [])) else (
    if bytes_eq w (codes "PROPFIND:current-user-privilege-set") then Some (asks_properties (CurrentUserPrivilegeSet ∷ [])) else (
    if bytes_eq w (codes "PROPFIND:acl,current-user-privilege-set") then Some (asks_properties (Acl ∷ CurrentUserPrivilegeSet ∷ [])) else (
    if bytes_eq w (codes "PROPFIND:current-user-privilege-set,acl") then Some (asks_properties (Acl ∷ CurrentUserPrivilegeSet ∷ [])) else (
    option_map asks_usually (method_named w)))))))))

-- a path by its text; none where the text spells none
abbrev pub ReadsPath : List ℕ → Option Path → Type 0
ReadsPath text None = SpellsNone text
ReadsPath text (Some p) = IsPath p × SpellsPath text p

abbrev pub ReadsDestination : Option (List ℕ) → Option Path → Type 0
ReadsDestination None to = to ≡ None
ReadsDestination (Some text) to = ReadsPath text to

-- the request of a method: a card at the destination may be replaced, and a PROPFIND asks of the resource alone
pub record IsRequestOf (asking : Asking) (where_text : List ℕ) (to_text : Option (List ℕ)) (request : Request) : Type 0 where
  pub method : request.method ≡ asking.method
  pub body : request.body ≡ asking.body
  pub path : ReadsPath where_text request.path
  pub destination : ReadsDestination to_text request.destination
  pub overwrite : request.overwrite ≡ Yes
  pub depth : request.depth ≡ Zero

-- what is asked at a path, by a word that names a method, or else a privilege; none where it names neither
abbrev pub ReadsQuestion : List ℕ → List ℕ → Option (List ℕ) → Option Question → Type 0
ReadsQuestion what where_text to_text None = (asking_named what ≡ None) × ((privilege : Privilege) → what ≢ name_of privilege)
ReadsQuestion what where_text to_text (Some (OfRequest request)) = (asking : Asking) × (asking_named what ≡ Some asking) × IsRequestOf asking where_text to_text request
ReadsQuestion what where_text to_text (Some (OfPrivilege privilege p)) = (asking_named what ≡ None) × (what ≡ name_of privilege) × ReadsPath where_text p

-- what a question needs of a caller by its bare name
abbrev pub needed_for : Office → Option (List ℕ) → Question → Result Needed Refusal
needed_for o name (OfRequest request) = needed_by o name request
needed_for o name (OfPrivilege privilege p) = needed_at o name p (contained privilege)

-- the text that tells why
abbrev pub IsWhyText : Office → Needed → List ℕ → Type 0
IsWhyText o needed text = (why : Why) × IsWhy o needed why × (text ≡ why_text why)

-- the answer to a question: the text, or the refusal of a stage before the verdict, or want of memory or a failed store
abbrev pub TellsWhy : Office → Option (List ℕ) → Question → Result (List ℕ) Refusal → Type 0
TellsWhy o name question (Ok text) = (needed : Needed) × (needed_for o name question ≡ Ok needed) × IsWhyText o needed text
TellsWhy o name question (Err e) = (e ≡ Unavailable) ⊎ (needed_for o name question ≡ Err e)
