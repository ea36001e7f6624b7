use Rattle.book_wire_steps.proofs.Takes.{steps_leave}
use Rattle.book_wire_steps.proofs.laws.steps_leave.Goals as goal

pub returns : goal.returns
returns g c = steps_leave g.M.Service.serving
