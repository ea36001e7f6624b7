-- What a sync report answers.
use Rattle.book_machine.proofs.Common.{◌≡◌, Option, Some, None, Result, Ok, Err, CircleOf, Report, Office, Path, replied, report_from, report_plan, sync_plan, SyncRequest, Plan, Refusal, Unavailable}
use Rattle.book_office_values.specs.declared.paths.Path.TheVariants as path
use Rattle.book_machine.specs.declared.messages.Content.TheVariants as content

-- the plan that tells a report
abbrev pub telling : Report → Result Plan Refusal
telling report = Ok (replied 207 (content.Synced report) None)

-- a plan tells a report
report_told : (found : Option Report) (plan : Plan) → report_plan found ≡ Ok plan → (report : Report) × (telling report ≡ Ok plan)
report_told None plan is = absurd (cc (is))
report_told (Some report) plan is = (report, is)

pub sync_told : (o : Office) (circle : CircleOf) (asks : SyncRequest) (p : Path) (plan : Plan) → sync_plan o circle asks p ≡ Ok plan → (report : Report) × (telling report ≡ Ok plan)
sync_told o circle asks path.Root plan is = absurd (cc (is))
sync_told o circle asks path.People plan is = absurd (cc (is))
sync_told o circle asks path.Groups plan is = absurd (cc (is))
sync_told o circle asks path.Books plan is = absurd (cc (is))
sync_told o circle asks (path.Person n) plan is = absurd (cc (is))
sync_told o circle asks (path.Group n) plan is = absurd (cc (is))
sync_told o circle asks (path.Book b) plan is = report_told (report_from o circle b asks.limit asks.from) plan is
sync_told o circle asks (path.Card b c) plan is = absurd (cc (is))

-- no sync report is unavailable
report_available : (found : Option Report) → report_plan found ≡ Err Unavailable → ⊥
report_available None is = absurd (cc (is))
report_available (Some report) is = absurd (cc (is))

pub sync_available : (o : Office) (circle : CircleOf) (asks : SyncRequest) (p : Path) → sync_plan o circle asks p ≡ Err Unavailable → ⊥
sync_available o circle asks path.Root is = absurd (cc (is))
sync_available o circle asks path.People is = absurd (cc (is))
sync_available o circle asks path.Groups is = absurd (cc (is))
sync_available o circle asks path.Books is = absurd (cc (is))
sync_available o circle asks (path.Person n) is = absurd (cc (is))
sync_available o circle asks (path.Group n) is = absurd (cc (is))
sync_available o circle asks (path.Book b) is = report_available (report_from o circle b asks.limit asks.from) is
sync_available o circle asks (path.Card b c) is = absurd (cc (is))
