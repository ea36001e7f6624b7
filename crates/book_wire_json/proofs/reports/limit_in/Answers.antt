use Rattle.book_wire_json.proofs.Common.{rules, view}
use Rattle.book_wire_json.proofs.Limits.{limit_told, none_is}
use Rattle.book_wire_json.proofs.reports.limit_in.Goals as goal

pub returns-in-Some : goal.returns-in-Some
returns-in-Some c = limit_told c.new.result (view c.args.value.now) c.in-Some.count (search rules) c.new.ensures

pub returns-in-None : goal.returns-in-None
returns-in-None c = none_is (view c.args.value.now) (search rules)
