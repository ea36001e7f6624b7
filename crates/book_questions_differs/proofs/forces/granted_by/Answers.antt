use Rattle.book_questions_differs.proofs.Common.{◌∙◌, ap}
use Rattle.book_lists.proofs.FirstFound.{grants_tells}
use Rattle.book_lists.proofs.OneOutcome.{one_grant}
use Rattle.book_lists.specs.Decisions.{bears, denying}
use Rattle.book_questions_rights.specs.Lines.{granted_by}
use Rattle.book_questions_differs.proofs.forces.granted_by.Goals as goal

pub returns : goal.returns
returns c =
    let entries = c.as_slice.result.now in
    let circle = c.args.circle.now in
    let here = c.args.force.now.here in
    one_grant entries circle here c.granted.result (granted_by entries circle here) c.granted.ensures
    (λ leaf. grants_tells (bears circle here) denying entries leaf)
    ∙ ap (λ es. granted_by es circle here) c.as_slice.ensures
