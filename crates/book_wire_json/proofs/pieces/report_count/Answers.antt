use Rattle.book_wire_json.proofs.Common.{◌+◌, length, ap, ◌∙◌}
use Rattle.book_wire_json.proofs.Joined.{cut_count, whole_count}
use Rattle.book_wire_json.proofs.pieces.report_count.Goals as goal

pub returns-then-report : goal.returns-then-report
returns-then-report c = ap (λ is. length is + 3) c.as_slice-items.ensures ∙ cut_count c.args.report.now c.if-report.true

pub returns-else-report : goal.returns-else-report
returns-else-report c = ap (λ is. length is + 2) c.as_slice-items.ensures ∙ whole_count c.args.report.now c.if-report.false
