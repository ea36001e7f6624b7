use Rattle.book_desk_serving.proofs.Common.{inr, refl}
use Rattle.book_desk_serving.proofs.preparing.prepare_over.Goals as goal

pub returns-in-Ok-adopt_given-clause-ready : goal.returns-in-Ok-adopt_given-clause-ready
returns-in-Ok-adopt_given-clause-ready g c = (
  (
    c.in-Ok.tables,
    c.in-Ok.ensures.opened,
    rw (c.new-in-Ok-adopt_given.ensures, c.new.ensures.keeper, c.release.ensures) (rw c.new-machine.ensures at c.in-Ok-adopt_given.ensures.adopted),
  ),
  rw c.new-in-Ok-adopt_given.ensures c.new.ensures.nothing,
)

pub returns-in-Err-adopt_given-clause-refused : goal.returns-in-Err-adopt_given-clause-refused
returns-in-Err-adopt_given-clause-refused g c = inr (
  c.in-Ok.tables,
  c.adopt_given.new.machine.keeper,
  c.in-Ok.ensures.opened,
  rw c.new-machine.ensures at c.in-Err-adopt_given.ensures.refused,
  rw (c.release-in-Err-adopt_given-2.ensures, c.release-in-Err-adopt_given.ensures) refl,
)
