use Rattle.book_questions_differs.proofs.ReadsOfTwo.{of_first, compared_as, compared_refused, first_failed, then_last, then_last_failed}
use Rattle.book_questions_changes.proofs.changes.read_spot.Goals as goal

pub returns-in_err-was : goal.returns-in_err-was
returns-in_err-was g c = first_failed _ _ _ _ _ _ _ c.from_residual.ensures.1 c.in_err-was.ensures

pub returns-in_err-is : goal.returns-in_err-is
returns-in_err-is g c = then_last_failed _ _ _ _ _ _ _ _ _ _ _ c.from_residual-in_err-is.ensures.1 (of_first _ _ _ _ _ c.in_ok-was.ensures) c.in_err-is.ensures

pub returns-in_err-path : goal.returns-in_err-path
returns-in_err-path g c =
    compared_refused _ _ _ _ _ _ _ _ c.from_residual-in_err-path.ensures.1 (then_last _ _ _ _ _ _ _ _ _ (of_first _ _ _ _ _ c.in_ok-was.ensures) c.in_ok-is.ensures)

pub returns : goal.returns
returns g c =
    compared_as _ _ _ _ _ _ _ _ (then_last _ _ _ _ _ _ _ _ _ (of_first _ _ _ _ _ c.in_ok-was.ensures) c.in_ok-is.ensures)
    (λ o p so tp t i. record { path = c.in_ok-path.ensures i; before = t.0 i; after = t.1 i })
