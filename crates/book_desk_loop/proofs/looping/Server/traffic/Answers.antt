use Rattle.std.proofs.Common.{refl}
use Rattle.book_desk_loop.proofs.Serving.{keeps_read}
use Rattle.book_desk_loop.proofs.looping.Server.traffic.Goals as goal

pub returns-clause-keeps : goal.returns-clause-keeps
returns-clause-keeps g c =
    let s = c.args.self.now in
    let r = c.shows_nothing-shows_nothing.ensures in
    keeps_read g.S.Read.remaining g.S.Write.contents g.M.Service.serving s (record s { connections = c.shows_nothing-shows_nothing.new.self })
    (record { limits = refl; left = refl; held = refl }) r.runs r.places.0 r.places.1 refl
