-- What is told of a text, and the fault that it has.
use Rattle.std.specs.Prelude.{ℕ, List}
use Rattle.book_policy.specs.Rules.{IsFaultOf}
use Rattle.book_policy.specs.declared.faults.PolicyFault.{PolicyFault}
use Rattle.book_policy_checks.specs.Reports.{AgreesOn, IsReportOf}
use Rattle.book_policy_checks.specs.declared.reports.Report.{Report}

-- what is told of a text agrees with the fault that it has
abbrev pub ReportsAgree : Type 0
ReportsAgree = (text : List ℕ) (report : Report) → IsReportOf text report → (fault : PolicyFault) → IsFaultOf text fault → AgreesOn report fault
