use Rattle.book_wire_steps.proofs.Takes.{runs_between}
use Rattle.book_wire_steps.proofs.laws.adoptions_part_runs.Goals as goal

pub returns : goal.returns
returns g c = runs_between g.M.Service.serving
