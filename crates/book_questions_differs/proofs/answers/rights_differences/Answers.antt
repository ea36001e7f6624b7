use Rattle.book_questions_differs.proofs.ReadsOfTwo.{both_failed, compared_as, compared_refused}
use Rattle.book_questions_differs.proofs.answers.rights_differences.Goals as goal

pub returns-in_err-blocks : goal.returns-in_err-blocks
returns-in_err-blocks g c = both_failed _ _ _ _ _ _ _ _ c.from_residual.ensures.1 c.in_err-blocks.ensures

pub returns-in_err-text_of : goal.returns-in_err-text_of
returns-in_err-text_of g c = compared_refused _ _ _ _ _ _ _ _ c.from_residual-in_err-text_of.ensures.1 c.in_ok-blocks.ensures

pub returns : goal.returns
returns g c = compared_as _ _ _ _ _ _ _ _ c.in_ok-blocks.ensures (λ o p so tp t. (c.in_ok-blocks.blocks, t, c.in_ok-text_of.ensures))
