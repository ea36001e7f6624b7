use Rattle.book_desk_serving.proofs.Common.{refl}
use Rattle.book_desk_serving.proofs.running.perform_given.Goals as goal

pub returns-in-Some-clause-runs : goal.returns-in-Some-clause-runs
returns-in-Some-clause-runs g c = rw c.in-Some.is c.perform_in.ensures.runs

pub returns-in-None-clause-runs : goal.returns-in-None-clause-runs
returns-in-None-clause-runs g c = rw c.in-None.is (c.perform_in_memory-status.ensures.ends, refl)
