use Rattle.std.proofs.Common.{◌≡◌, ◌≤◌, length, Some, None, arith, rules}
use Rattle.toml.specs.Parse.{parse_document}
use Rattle.toml.specs.View.{table_view}
use Rattle.book_limits.specs.declared.TheConstants.{MAX_POLICY_BYTES}
use Rattle.book_policy_checks.proofs.Told.{not_toml_report, told_report}
use Rattle.book_policy_checks.proofs.reports.check_policy.Goals as goal

pub returns-in-Ok : goal.returns-in-Ok
returns-in-Ok c =
    let short : length c.args.text.now ≤ MAX_POLICY_BYTES = omega arith in
    let is : parse_document c.args.text.now ≡ Some (table_view c.in-Ok.table) = search rules in
    told_report c.args.text.now (table_view c.in-Ok.table) c.report_of.result short is c.report_of.ensures

pub returns-in-Err : goal.returns-in-Err
returns-in-Err c =
    let short : length c.args.text.now ≤ MAX_POLICY_BYTES = omega arith in
    let none : parse_document c.args.text.now ≡ None = search rules in
    not_toml_report c.args.text.now short none
