use Rattle.book_questions_changes.proofs.Common.{◌∙◌, ◌++◌}
use Rattle.book_questions_changes.specs.Changes.{with_last}
use Rattle.book_questions_differs.proofs.ReadsOfTwo.{both_failed, compared_as, compared_failed, compared_refused, then_both}
use Rattle.book_questions_changes.proofs.changes.differences.Goals as goal

pub returns-in_err-members : goal.returns-in_err-members
returns-in_err-members g c = both_failed _ _ _ _ _ _ _ _ c.from_residual.ensures.1 c.in_err-members.ensures

pub returns-in_err-facts : goal.returns-in_err-facts
returns-in_err-facts g c = compared_failed _ _ _ _ _ _ _ _ _ _ _ _ c.from_residual-in_err-facts.ensures.1 c.in_ok-members.ensures c.in_err-facts.ensures

pub returns-in_err-rights : goal.returns-in_err-rights
returns-in_err-rights g c =
    compared_failed _ _ _ _ _ _ _ _ _ _ _ _ c.from_residual-in_err-rights.ensures.1 (then_both _ _ _ _ _ _ _ _ _ _ c.in_ok-members.ensures c.in_ok-facts.ensures) c.in_err-rights.ensures

pub returns-in_err-whole : goal.returns-in_err-whole
returns-in_err-whole g c =
    compared_refused _ _ _ _ _ _ _ _ c.from_residual-in_err-whole.ensures.1
    (then_both _ _ _ _ _ _ _ _ _ _ (then_both _ _ _ _ _ _ _ _ _ _ c.in_ok-members.ensures c.in_ok-facts.ensures) c.in_ok-rights.ensures)

pub returns : goal.returns
returns g c =
    compared_as _ _ _ _ _ _ _ _
    (then_both _ _ _ _ _ _ _ _ _ _ (then_both _ _ _ _ _ _ _ _ _ _ c.in_ok-members.ensures c.in_ok-facts.ensures) c.in_ok-rights.ensures)
    (λ o p so tp t. (
      c.in_ok-members.members,
      c.in_ok-facts.facts,
      c.in_ok-rights.rights,
      record { are_members = t.0.0; are_facts = t.0.1; are_rights = t.1 },
      c.in_ok-whole.ensures ∙ (λ i. with_last (c.as_str.ensures i ++ (c.as_str-2.ensures i ++ c.as_str-3.ensures i))),
    ))
