use Rattle.book_lists.proofs.ReachedCircles.{reach_makes_circles, reach_is_one}
use Rattle.book_lists.proofs.circles.closures_make_circles.Goals as goal

pub returns-clause-circles : goal.returns-clause-circles
returns-clause-circles c = reach_makes_circles

pub returns-clause-one : goal.returns-clause-one
returns-clause-one c = reach_is_one
