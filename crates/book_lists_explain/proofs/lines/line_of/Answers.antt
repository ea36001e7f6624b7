use Rattle.book_lists_explain.proofs.Common.{inr, sym, ap, ◌∙◌, false≢true}
use Rattle.book_lists_explain.proofs.LineFaults.{texts, empty_fault, line_said, line_fault}
use Rattle.book_lists_explain.proofs.lines.line_of.Goals as goal

pub returns-then-has_empty-clause-faulty : goal.returns-then-has_empty-clause-faulty
returns-then-has_empty-clause-faulty c =
    inr (empty_fault c.args.line.now (λ blank. false≢true (sym c.if-is_blank.false ∙ c.is_blank.ensures.1 blank)) c.deref.result.now (ap texts c.deref.ensures.value ∙ c.in_ok-words.ensures)
    c.has_empty.result c.has_empty.ensures c.if-has_empty.true)

pub returns-clause-said : goal.returns-clause-said
returns-clause-said c =
    line_said c.args.line.now (λ blank. false≢true (sym c.if-is_blank.false ∙ c.is_blank.ensures.1 blank)) c.deref-2.result.now (ap texts c.deref-2.ensures.value ∙ c.in_ok-words.ensures)
    c.has_empty.result (rw (c.deref-2.ensures.value, ← c.deref.ensures.value) c.has_empty.ensures) c.if-has_empty.false c.tell.result c.tell.ensures.told

pub returns-clause-faulty : goal.returns-clause-faulty
returns-clause-faulty c =
    line_fault c.args.line.now (λ blank. false≢true (sym c.if-is_blank.false ∙ c.is_blank.ensures.1 blank)) c.deref-2.result.now (ap texts c.deref-2.ensures.value ∙ c.in_ok-words.ensures)
    c.has_empty.result (rw (c.deref-2.ensures.value, ← c.deref.ensures.value) c.has_empty.ensures) c.if-has_empty.false c.tell.result c.tell.ensures.faulty
