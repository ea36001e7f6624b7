use Rattle.book_questions_changes.proofs.Common.{◌∙◌, ap, flat_map, gathered, map, Block}
use Rattle.std.specs.FinMap.{entries}
use Rattle.book_office_values.specs.declared.paths.Path.{Path}
use Rattle.book_questions_changes.specs.Changes.{spot_at}
use Rattle.book_questions_changes.specs.Facts.{spot_block}
use Rattle.book_questions_differs.proofs.ReadsOfTwo.{both_failed, compared_as, compared_failed, compared_refused, then_both}
use Rattle.book_questions_changes.proofs.changes.read_facts.Goals as goal

pub returns-in_err-paths : goal.returns-in_err-paths
returns-in_err-paths g c = both_failed _ _ _ _ _ _ _ _ c.from_residual.ensures.1 c.in_err-paths.ensures

pub returns-in_err-add_each : goal.returns-in_err-add_each
returns-in_err-add_each g c = compared_failed _ _ _ _ _ _ _ _ _ _ _ _ c.from_residual-in_err-add_each.ensures.1 c.in_ok-paths.ensures c.in_err-add_each.ensures

pub returns-in_err-text_of : goal.returns-in_err-text_of
returns-in_err-text_of g c =
    compared_refused _ _ _ _ _ _ _ _ c.from_residual-in_err-text_of.ensures.1 (then_both _ _ _ _ _ _ _ _ _ _ c.in_ok-paths.ensures c.in_ok-add_each.ensures)

pub returns : goal.returns
returns g c =
    compared_as _ _ _ _ _ _ _ _ (then_both _ _ _ _ _ _ _ _ _ _ c.in_ok-paths.ensures c.in_ok-add_each.ensures)
    (λ o p so tp t. c.in_ok-text_of.ensures ∙ ap (λ m. flat_map (λ (b : Block). b.1) (entries m))
    (t.1 ∙ (λ i. gathered (c.new-blocks.ensures i) (map (λ (at : Path). spot_block (spot_at o p at)) ((c.as_slice.ensures.value ∙ t.0) i)))))
