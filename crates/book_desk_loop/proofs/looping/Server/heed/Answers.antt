use Rattle.book_desk_loop.proofs.Serving.{keeps_then}
use Rattle.book_desk_loop.proofs.looping.Server.heed.Goals as goal

pub returns : goal.returns
returns g c =
    let keeps = keeps_then g.S.Read.remaining g.S.Write.contents g.M.Service.serving in
    keeps c.args.self.now c.traffic-traffic.new.self c.follow.new.self c.traffic-traffic.ensures.keeps
    (keeps c.traffic-traffic.new.self c.administer-wish.new.self c.follow.new.self c.administer-wish.ensures.keeps c.follow.ensures)
