use Rattle.book_wire_steps.proofs.Takes.{logs_tell}
use Rattle.book_wire_steps.proofs.laws.logs_tell_steps.Goals as goal

pub returns : goal.returns
returns g c = logs_tell g.M.Service.serving
