use Rattle.book_questions_differs.proofs.Common.{◌∙◌, gathered}
use Rattle.book_questions_differs.specs.Differences.{blocks_of}
use Rattle.book_questions_differs.proofs.ReadsOfTwo.{both_failed, compared_as, compared_failed, then_both}
use Rattle.book_questions_differs.proofs.answers.read_blocks.Goals as goal

pub returns-in_err-parties : goal.returns-in_err-parties
returns-in_err-parties g c = both_failed _ _ _ _ _ _ _ _ c.from_residual.ensures.1 c.in_err-parties.ensures

pub returns-in_err-paths : goal.returns-in_err-paths
returns-in_err-paths g c = compared_failed _ _ _ _ _ _ _ _ _ _ _ _ c.from_residual-in_err-paths.ensures.1 c.in_ok-parties.ensures c.in_err-paths.ensures

pub returns-in_err-add_each : goal.returns-in_err-add_each
returns-in_err-add_each g c =
    compared_failed _ _ _ _ _ _ _ _ _ _ _ _ c.from_residual-in_err-add_each.ensures.1 (then_both _ _ _ _ _ _ _ _ _ _ c.in_ok-parties.ensures c.in_ok-paths.ensures) c.in_err-add_each.ensures

pub returns : goal.returns
returns g c =
    compared_as _ _ _ _ _ _ _ _
    (then_both _ _ _ _ _ _ _ _ _ _ (then_both _ _ _ _ _ _ _ _ _ _ c.in_ok-parties.ensures c.in_ok-paths.ensures) c.in_ok-add_each.ensures)
    (λ o p so tp t. (
      c.in_ok-parties.parties.items,
      t.0.0,
      t.1 ∙ (λ i. gathered (c.new-blocks.ensures i) (blocks_of o p (c.as_slice.ensures.value i) ((c.as_slice-2.ensures.value ∙ t.0.1) i))),
    ))
