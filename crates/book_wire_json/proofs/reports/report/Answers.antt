use Rattle.book_wire_json.proofs.Common.{sym, ◌∙◌, false≢true}
use Rattle.book_wire_json.proofs.Naming.{no_report}
use Rattle.book_wire_json.proofs.reports.report.Goals as goal

pub returns : goal.returns
returns c = no_report _ c.in_default.ensures c.in_default-limited_collection.ensures c.in_default-effective.ensures
    (λ e. false≢true (sym c.if-is_report_named.false ∙ c.is_report_named.ensures.1 e))
    (λ e. false≢true (sym c.if-is_report_named-2.false ∙ c.is_report_named-2.ensures.1 e))
