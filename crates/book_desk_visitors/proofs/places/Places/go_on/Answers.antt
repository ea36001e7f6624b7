use Rattle.book_wire_steps.proofs.Takes.{only_then}
use Rattle.book_desk_visitors.proofs.places.Places.go_on.Goals as goal

pub returns : goal.returns
returns g c =
    only_then g.M.Service.serving c.args.service.now c.visit_all-went.new.service c.take_all.new.service c.visit_all-went.ensures c.take_all.ensures
