use Rattle.book_questions_differs.proofs.Common.{◌∙◌, ◌++◌, ap}
use Rattle.std.proofs.Common.{filter}
use Rattle.book_questions_differs.specs.Places.{is_missing}
use Rattle.book_questions_differs.proofs.ReadsOfTwo.{of_first, compared_as, compared_refused, first_failed, then_first, then_first_failed, then_last, then_last_failed}
use Rattle.book_questions_differs.proofs.answers.read_paths.Goals as goal

pub returns-in_err-paths : goal.returns-in_err-paths
returns-in_err-paths g c = first_failed _ _ _ _ _ _ _ c.from_residual.ensures.1 c.in_err-paths.ensures

pub returns-in_err-others : goal.returns-in_err-others
returns-in_err-others g c = then_last_failed _ _ _ _ _ _ _ _ _ _ _ c.from_residual-in_err-others.ensures.1 (of_first _ _ _ _ _ c.in_ok-paths.ensures) c.in_err-others.ensures

pub returns-in_err-missing : goal.returns-in_err-missing
returns-in_err-missing g c =
    then_first_failed _ _ _ _ _ _ _ _ _ _ _ c.from_residual-in_err-missing.ensures.1 (then_last _ _ _ _ _ _ _ _ _ (of_first _ _ _ _ _ c.in_ok-paths.ensures) c.in_ok-others.ensures) c.in_err-missing.ensures

pub returns-in_err-append : goal.returns-in_err-append
returns-in_err-append g c =
    compared_refused _ _ _ _ _ _ _ _ c.from_residual-in_err-append.ensures.1
    (then_first _ _ _ _ _ _ _ _ _ (then_last _ _ _ _ _ _ _ _ _ (of_first _ _ _ _ _ c.in_ok-paths.ensures) c.in_ok-others.ensures) c.in_ok-missing.ensures)

pub returns : goal.returns
returns g c =
    compared_as _ _ _ _ _ _ _ _
    (then_first _ _ _ _ _ _ _ _ _ (then_last _ _ _ _ _ _ _ _ _ (of_first _ _ _ _ _ c.in_ok-paths.ensures) c.in_ok-others.ensures) c.in_ok-missing.ensures)
    (λ o p so tp t. c.in_ok-append.ensures.items ∙ (λ i. t.0.0 i ++ (t.1 ∙ ap (filter (is_missing o)) (c.as_slice.ensures.value ∙ t.0.1)) i))
