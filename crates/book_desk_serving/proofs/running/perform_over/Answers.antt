use Rattle.book_desk_serving.proofs.running.perform_over.Goals as goal

pub returns-in-Pipe-clause-ends : goal.returns-in-Pipe-clause-ends
returns-in-Pipe-clause-ends g c = rw c.in-Pipe.is c.pipe_after.ensures.ends

pub returns-in-Import-clause-ends : goal.returns-in-Import-clause-ends
returns-in-Import-clause-ends g c = rw c.release.ensures (rw c.new-machine.ensures at c.perform-status.ensures.ends)
