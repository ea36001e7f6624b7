use Rattle.std.proofs.lemmas.Result.{IfOk-weaker}
use Rattle.book_lists_reach.proofs.Places.{same_ends}
use Rattle.book_lists_reach.proofs.numbering.principals_of.Goals as goal

pub returns-clause-ends : goal.returns-clause-ends
returns-clause-ends c = IfOk-weaker c.in_order.result _ _ (λ ordered same. same_ends c.args.list.now c.in_ok-ends.ends.items ordered.items same c.in_ok-ends.ensures) c.in_order.ensures.same
