-- The printed names and texts of the faults of an `explain` text (own profile).
use Rattle.std.specs.Prelude.{ℕ, List, ◌++◌, codes, decimal}
use Rattle.book_lists_explain.specs.declared.faults.ExplainFault.{ExplainFault}
use Rattle.book_lists_explain.specs.declared.faults.ExplainFaultKind.{ExplainFaultKind}
use Rattle.book_lists_explain.specs.declared.faults.ExplainFaultKind.TheVariants.{BadLine, BadName, UnknownPrivilege, Twice, Missing, TooMany, Memory}

abbrev pub explain_fault_name : ExplainFaultKind → List ℕ
explain_fault_name BadLine = codes "bad-line"
explain_fault_name BadName = codes "bad-name"
explain_fault_name UnknownPrivilege = codes "unknown-privilege"
explain_fault_name Twice = codes "twice"
explain_fault_name Missing = codes "missing"
explain_fault_name TooMany = codes "too-many"
explain_fault_name Memory = codes "memory"

abbrev pub explain_fault_text : ExplainFault → List ℕ
explain_fault_text fault = codes "line " ++ (decimal fault.line ++ (codes ": " ++ explain_fault_name fault.kind))
