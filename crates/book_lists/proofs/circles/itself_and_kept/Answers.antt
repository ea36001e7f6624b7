use Rattle.book_lists.proofs.Common.{◌≡◌, ap, ◌∙◌}
use Rattle.std.specs.FinSet as set
use Rattle.book_lists.proofs.ReachedCircles.{circle_alone, circle_of_groups}
use Rattle.book_lists.proofs.circles.itself_and_kept.Goals as goal

pub returns-then-is_in_none : goal.returns-then-is_in_none
returns-then-is_in_none c = rw c.in_ok-clone.ensures.cases (circle_alone c.args.reach.now c.args.person.now (c.is_in_none.ensures c.if-is_in_none.true))

pub returns : goal.returns
returns c =
    let made : c.insert.new.self ≡ set.insert c.in_ok-principals.principals c.args.person.now = c.in_ok-insert.ensures.ok ∙ ap (set.insert c.in_ok-principals.principals) c.in_ok-clone-2.ensures.cases in
    rw made (circle_of_groups c.args.reach.now c.args.person.now c.in_ok-principals.principals c.in_ok-principals.ensures)
