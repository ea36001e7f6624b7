use Rattle.book_lists_explain.proofs.Common.{sym, ap, ◌∙◌, codes, false≢true, bytes_eq, caller_form, OrMemory, FormFault}
use Rattle.book_lists_explain.proofs.LineFaults.{passed_on, bad_name, person_or_group}
use Rattle.book_lists_explain.proofs.lines.caller.Goals as goal

pub returns-in_err-person-clause-faulty : goal.returns-in_err-person-clause-faulty
returns-in_err-person-clause-faulty c = passed_on c.from_residual.result (OrMemory (FormFault (caller_form c.args.word.now))) c.in_err-person.field-0.0 c.from_residual.ensures.1
    (bad_name (caller_form c.args.word.now) _ c.in_err-person.field-0.0
    (λ none. (λ e. false≢true (sym c.if-eq.false ∙ c.eq.ensures ∙ ap (λ w. bytes_eq w (codes "-")) e), λ g n is. none g n)) c.in_err-person.ensures.bad)

pub returns-clause-told : goal.returns-clause-told
returns-clause-told c =
    let named = c.in_ok-person.ensures.named in
    (named, person_or_group _ named.0 (λ group. false≢true (sym c.if-is_group.false ∙ c.is_group.ensures.1 group)))
