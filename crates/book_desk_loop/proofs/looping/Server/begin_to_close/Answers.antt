use Rattle.std.proofs.Common.{refl}
use Rattle.book_desk_loop.proofs.Serving.{closes_at}
use Rattle.book_desk_loop.proofs.looping.Server.begin_to_close.Goals as goal

pub returns : goal.returns
returns g c =
    let e = c.close_for_writing.ensures in
    closes_at g.S.Read.remaining g.S.Write.contents g.M.Service.serving c.args.place c.args.self.now (record c.args.self.now { sockets = c.close_for_writing.new.sockets }) (record { limits = refl; left = refl; held = refl }) refl c.requires.done c.requires.serves
    e.there e.none e.lines
