use Rattle.std.proofs.Common.{refl}
use Rattle.book_desk_loop.proofs.Serving.{drops_at, lingers_at}
use Rattle.book_desk_loop.proofs.looping.Server.linger.Goals as goal

pub returns-clause-keeps : goal.returns-clause-keeps
returns-clause-keeps g c =
    let e = c.drop_at.ensures in
    drops_at g.S.Read.remaining g.S.Write.contents g.M.Service.serving c.args.place c.args.self.now (record c.args.self.now { sockets = c.drop_at.new.sockets }) (record { limits = refl; left = refl; held = refl }) refl c.requires
    e.there (λ n. (e.none n).0) e.lines

pub returns-clause-ended : goal.returns-clause-ended
returns-clause-ended g c ended =
    let e = c.drop_at.ensures in
    lingers_at g.S.Read.remaining g.S.Write.contents g.M.Service.serving c.args.place c.args.self.now (record c.args.self.now { sockets = c.drop_at.new.sockets }) c.drop_at.result ended c.requires e.there (λ n. (e.none n).1)
