use Rattle.std.proofs.Common.{rules}
use Rattle.toml.specs.View.{table_view}
use Rattle.book_policy_faults.specs.Tables.{faults_in}
use Rattle.book_policy_checks.proofs.Told.{none_told}
use Rattle.book_policy_checks.proofs.reports.report_of.Goals as goal

pub returns-then-is_empty : goal.returns-then-is_empty
returns-then-is_empty c = none_told (faults_in (table_view c.args.table)) (search rules)
