use Rattle.book_lists_explain.proofs.Common.{inl, member_form, OrMemory, FormFault}
use Rattle.book_lists_explain.proofs.LineFaults.{passed_on, bad_name}
use Rattle.book_lists_explain.proofs.lines.member.Goals as goal

pub returns-in_err-group-clause-faulty : goal.returns-in_err-group-clause-faulty
returns-in_err-group-clause-faulty c = passed_on c.from_residual.result (OrMemory (FormFault (member_form c.args.group.now c.args.member.now))) c.in_err-group.field-0.0 c.from_residual.ensures.1
    (bad_name (member_form c.args.group.now c.args.member.now) _ c.in_err-group.field-0.0 (λ none. inl (λ g n is. none g n)) c.in_err-group.ensures.bad)
