use Rattle.std.proofs.Common.{string_bytes}
use Rattle.book_lists_explain.proofs.Readings.{answers_text, missing_text, fault_kept}
use Rattle.book_lists_explain.proofs.explanations.explain.Goals as goal

pub returns-in_err-question-clause-faulty : goal.returns-in_err-question-clause-faulty
returns-in_err-question-clause-faulty c = fault_kept c.args.text.now c.from_residual.result c.in_err-question.field-0.0 c.from_residual.ensures.1 c.in_err-question.ensures.faulty

pub returns-in-Ok-clause-answered : goal.returns-in-Ok-clause-answered
returns-in-Ok-clause-answered c =
    let v = c.in_ok-question.ensures.read in
    let a = c.in-Ok.ensures.answered in
    answers_text c.args.text.now (string_bytes c.in-Ok.text) v.0 c.in_ok-question.question v.1 v.2 a.0 a.1 a.2 a.3 a.4

pub returns-clause-faulty : goal.returns-clause-faulty
returns-clause-faulty c =
    let v = c.in_ok-question.ensures.read in
    missing_text c.args.text.now v.0 c.in_ok-question.question c.in-Err.kind c.fault_at.result v.1 v.2 c.fault_at.ensures c.in-Err.ensures.missing
