use Rattle.book_questions_changes.proofs.Common.{◌∙◌, ap}
use Rattle.std.specs.FinMap as maps
use Rattle.book_questions_changes.specs.Facts.{spot_block}
use Rattle.book_questions_differs.specs.declared.places.Spot.{Spot}
use Rattle.book_questions_differs.proofs.ReadsOfTwo.{both_failed, compared_as, compared_refused}
use Rattle.book_questions_changes.proofs.changes.add_at.Goals as goal

pub returns-in_err-spot : goal.returns-in_err-spot
returns-in_err-spot g c = both_failed _ _ _ _ _ _ _ _ c.from_residual.ensures.1 c.in_err-spot.ensures

pub returns-in_err-add_spot : goal.returns-in_err-add_spot
returns-in_err-add_spot g c = compared_refused _ _ _ _ _ _ _ _ c.from_residual-in_err-add_spot.ensures.1 c.in_ok-spot.ensures

pub returns : goal.returns
returns g c =
    compared_as _ _ _ _ _ _ _ _ c.in_ok-spot.ensures
    (λ o p so tp t. c.in_ok-add_spot.ensures ∙ ap (λ (s : Spot). maps.insert c.args.blocks.now (spot_block s).0 (spot_block s).1) t)
