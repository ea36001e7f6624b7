use Rattle.book_wire_steps.proofs.Takes.{only_then}
use Rattle.book_desk_visitors.proofs.places.Places.take_all.Goals as goal

pub loop-preserved : goal.loop-preserved
loop-preserved g c =
    only_then g.M.Service.serving c.args.service.now c.loop.service c.visit-went.new.service c.loop.invariant c.visit-went.ensures

pub returns-then-ne : goal.returns-then-ne
returns-then-ne g c =
    only_then g.M.Service.serving c.args.service.now c.loop.service c.visit-went.new.service c.loop.invariant c.visit-went.ensures
