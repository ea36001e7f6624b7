use Rattle.book_questions_changes.proofs.Common.{subst}
use Rattle.book_lists.specs.Memberships.{Memberships}
use Rattle.book_questions_changes.specs.Members.{IsMembersText}
use Rattle.book_questions_differs.proofs.ReadsOfTwo.{of_first, compared_as, compared_refused, first_failed, then_last, then_last_failed}
use Rattle.book_questions_changes.proofs.changes.read_members.Goals as goal

pub returns-in_err-was : goal.returns-in_err-was
returns-in_err-was g c = first_failed _ _ _ _ _ _ _ c.from_residual.ensures.1 c.in_err-was.ensures

pub returns-in_err-is : goal.returns-in_err-is
returns-in_err-is g c = then_last_failed _ _ _ _ _ _ _ _ _ _ _ c.from_residual-in_err-is.ensures.1 (of_first _ _ _ _ _ c.in_ok-was.ensures) c.in_err-is.ensures

pub returns-in_err-members_text : goal.returns-in_err-members_text
returns-in_err-members_text g c =
    compared_refused _ _ _ _ _ _ _ _ c.from_residual-in_err-members_text.ensures.1 (then_last _ _ _ _ _ _ _ _ _ (of_first _ _ _ _ _ c.in_ok-was.ensures) c.in_ok-is.ensures)

pub returns : goal.returns
returns g c =
    compared_as _ _ _ _ _ _ _ _ (then_last _ _ _ _ _ _ _ _ _ (of_first _ _ _ _ _ c.in_ok-was.ensures) c.in_ok-is.ensures)
    (λ o p so tp t. subst (λ (m : Memberships). IsMembersText m p.pairs c.in_ok-members_text.field-0) t.0 (subst (λ (m : Memberships). IsMembersText c.in_ok-was.was' m c.in_ok-members_text.field-0) t.1 c.in_ok-members_text.ensures))
