-- The body of a REPORT (RFC 3253, section 3.6; RFC 6578, section 3.2).
use Rattle.std.specs.Prelude.{◌≡◌, ℕ, List, [], ◌∷◌, codes, Option, None, Some}
use Rattle.serde_json.specs.Data.{Data, Members, null, number, string, object, member, no_members, unsigned}
use Rattle.book_lists.specs.Principals.{IsPerson}
use Rattle.book_lists.specs.declared.circles.Caller.{Caller}
use Rattle.book_lists.specs.declared.circles.Caller.TheVariants as caller
use Rattle.book_office_sync.specs.Copies.{IsLimit}
use Rattle.book_office_sync.specs.Tokens.{IsToken, IsNoToken, token_text}
use Rattle.book_machine.specs.declared.messages.Body.{Body}
use Rattle.book_machine.specs.declared.messages.Body.TheVariants as body
use Rattle.book_machine.specs.declared.messages.ReportKind.{ReportKind}
use Rattle.book_machine.specs.declared.messages.ReportKind.TheVariants as report
use Rattle.book_machine.specs.declared.messages.SyncFrom.{SyncFrom}
use Rattle.book_machine.specs.declared.messages.SyncFrom.TheVariants as from
use Rattle.book_lists_explain.specs.Lines.{Names}

-- {"report":"sync-collection","sync-token":TEXT}, with "limit":N where the number of items is limited (RFC 6578, section 3.7)
abbrev pub of_changes : List ℕ → Members
of_changes token = member (codes "report") (string (codes "sync-collection")) (member (codes "sync-token") (string token) no_members)

abbrev pub limited_collection : Data → List ℕ → Data
limited_collection limit token = object (member (codes "limit") limit (of_changes token))

abbrev pub sync_collection : List ℕ → Option ℕ → Data
sync_collection token None = object (of_changes token)
sync_collection token (Some limit) = limited_collection (number (unsigned limit)) token

-- {"report":NAME}
abbrev pub report_named : List ℕ → Data
report_named name = object (member (codes "report") (string name) no_members)

-- {"report":"group-members"}
abbrev pub group_members : Data
group_members = report_named (codes "group-members")

-- {"report":"names"}
abbrev pub names : Data
names = report_named (codes "names")

-- {"principal":WHO,"report":"effective"}
abbrev pub effective : Data → Data
effective who = object (member (codes "principal") who (member (codes "report") (string (codes "effective")) no_members))

-- from where the text of a token asks: the start where it is empty; a text that is no token is a case by itself
abbrev pub IsFrom : List ℕ → SyncFrom → Type 0
IsFrom text from.Start = text ≡ []
IsFrom text (from.After token) = IsToken token × (text ≡ token_text token)
IsFrom [] from.Unknown = ⊥
IsFrom (c ∷ cs) from.Unknown = IsNoToken (c ∷ cs)

-- null is nobody; a text names a person
abbrev pub IsCallerIn : Data → Caller → Type 0
IsCallerIn who caller.Nobody = who ≡ null
IsCallerIn who (caller.Known person) = (text : List ℕ) × (who ≡ string text) × IsPerson person × Names text person

abbrev pub IsReport : Data → ReportKind → Type 0
IsReport d (report.SyncCollection asks) = (text : List ℕ) × (d ≡ sync_collection text asks.limit) × IsLimit asks.limit × IsFrom text asks.from
IsReport d report.GroupMembers = d ≡ group_members
IsReport d (report.Effective caller) = (who : Data) × (d ≡ effective who) × IsCallerIn who caller
IsReport d report.Names = d ≡ names

-- the report that is asked; Unread where the value asks none
abbrev pub IsReportBody : Option Data → Body → Type 0
IsReportBody (Some d) (body.Report report) = IsReport d report
IsReportBody (Some d) body.Unread = (report : ReportKind) → IsReport d report → ⊥
IsReportBody None b = b ≡ body.Unread
IsReportBody (Some d) body.Empty = ⊥
IsReportBody (Some d) (body.Text text) = ⊥
IsReportBody (Some d) (body.Find properties) = ⊥
IsReportBody (Some d) (body.Patch patch) = ⊥
IsReportBody (Some d) (body.List entries) = ⊥
