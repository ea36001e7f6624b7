use Rattle.book_wire_steps.proofs.Takes.{lead_offices}
use Rattle.book_wire_steps.proofs.laws.steps_lead_offices.Goals as goal

pub returns : goal.returns
returns g c = lead_offices g.M.Service.serving
