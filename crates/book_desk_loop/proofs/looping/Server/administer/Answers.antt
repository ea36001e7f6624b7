use Rattle.std.proofs.Common.{refl}
use Rattle.book_desk_loop.proofs.Serving.{keeps_adopted}
use Rattle.book_desk_loop.proofs.looping.Server.administer.Goals as goal

pub returns-clause-keeps : goal.returns-clause-keeps
returns-clause-keeps g c =
    let s = c.args.self.now in
    let r = c.administer.ensures in
    keeps_adopted g.S.Read.remaining g.S.Write.contents g.M.Service.serving s (record s { connections = c.administer.new.self }) c.requires
    (record { limits = refl; left = refl; held = refl }) r.adopts r.places.0 r.places.1 refl
