use Rattle.book_lists.proofs.Common.{refl}
use Rattle.book_lists.proofs.Searches.{alone}
use Rattle.book_lists.proofs.circles.reached_of.Goals as goal

pub returns-then-is_in_none : goal.returns-then-is_in_none
returns-then-is_in_none c = rw c.in_ok-clone.ensures.cases (record {
  known = refl;
  principals = alone c.args.pairs.now c.args.person.now (c.is_in_none.ensures c.if-is_in_none.true);
})
