use Rattle.book_wire_steps.proofs.Takes.{only_read}
use Rattle.book_desk_visitors.proofs.visitors.given.Goals as goal

pub returns-in-Ok : goal.returns-in-Ok
returns-in-Ok g c = only_read g.M.Service.serving c.args.service.now c.counts.new.self c.counts.ensures.reads

pub returns-in-Err : goal.returns-in-Err
returns-in-Err g c = only_read g.M.Service.serving c.args.service.now c.counts.new.self c.counts.ensures.reads
