use Rattle.book_wire_steps.proofs.Takes.{fall_back}
use Rattle.book_wire_steps.proofs.laws.steps_fall_back.Goals as goal

pub returns : goal.returns
returns g c = fall_back g.M.Service.serving
