use Rattle.book_lists_explain.proofs.Common.{here_form, OrMemory, FormFault}
use Rattle.book_lists_explain.proofs.LineFaults.{passed_on, bad_name}
use Rattle.book_lists_explain.proofs.lines.here.Goals as goal

pub returns-in_err-path-clause-faulty : goal.returns-in_err-path-clause-faulty
returns-in_err-path-clause-faulty c = passed_on c.from_residual.result (OrMemory (FormFault (here_form c.args.word.now))) c.in_err-path.field-0.0 c.from_residual.ensures.1
    (bad_name (here_form c.args.word.now) _ c.in_err-path.field-0.0 (λ none. none) c.in_err-path.ensures.bad)
