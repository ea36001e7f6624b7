use Rattle.book_lists_explain.proofs.Common.{List, inl, inr, Line, ExplainFaultKind, OrMemory, OwnFault, IsQuestion, LineFault}
use Rattle.book_lists_explain.specs.Questions.{Excess}
use Rattle.book_lists_explain.proofs.LineFaults.{passed_on, or_memory, if_err}
use Rattle.book_lists_explain.proofs.Readings.{on_ok}
use Rattle.book_lists_explain.proofs.questions.Question.take_text.Goals as goal

pub returns-in_err-line-clause-faulty : goal.returns-in_err-line-clause-faulty
returns-in_err-line-clause-faulty c =
    let Q : ExplainFaultKind → Type 0 = λ kind. (said : List Line) → IsQuestion said c.args.self.now → LineFault said c.args.text.now kind in
    passed_on c.from_residual.result (OrMemory Q) c.in_err-line.field-0.0 c.from_residual.ensures.1
    (or_memory (OwnFault c.args.text.now) Q c.in_err-line.field-0.0 (λ own said is. inl own) c.in_err-line.ensures.faulty)

pub returns-clause-taken : goal.returns-clause-taken
returns-clause-taken c = on_ok _ _ c.take.result (λ t said is. let u = t said is in (c.in_ok-line.line, c.in_ok-line.ensures.said, u.0, u.1)) c.take.ensures.taken

pub returns-clause-faulty : goal.returns-clause-faulty
returns-clause-faulty c =
    let P : ExplainFaultKind → Type 0 = λ kind. (said : List Line) → IsQuestion said c.args.self.now → Excess said c.in_ok-line.line kind in
    let Q : ExplainFaultKind → Type 0 = λ kind. (said : List Line) → IsQuestion said c.args.self.now → LineFault said c.args.text.now kind in
    if_err (OrMemory P) (OrMemory Q) c.take.result (λ kind. or_memory P Q kind (λ excess said is. inr (c.in_ok-line.line, c.in_ok-line.ensures.said, excess said is))) c.take.ensures.faulty
