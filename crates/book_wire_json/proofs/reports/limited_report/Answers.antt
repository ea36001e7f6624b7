use Rattle.book_wire_json.proofs.Common.{view, ap}
use Rattle.book_wire_json.specs.Reports.{limited_collection}
use Rattle.book_wire_json.proofs.Limits.{no_limited}
use Rattle.book_wire_json.proofs.reports.limited_report.Goals as goal

pub returns-in_default : goal.returns-in_default
returns-in_default c = no_limited (view c.args.limit.now) c.args.text.now c.in_default.ensures

pub returns : goal.returns
returns c = (c.args.text.now, ap (λ v. limited_collection v c.args.text.now) c.in-Some.ensures.1, c.in-Some.ensures.0, c.in_ok-sync_from.ensures)
