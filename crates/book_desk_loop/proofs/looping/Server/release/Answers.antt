use Rattle.book_desk_loop.proofs.Serving.{keeps_release}
use Rattle.book_desk_loop.proofs.looping.Server.release.Goals as goal

pub returns : goal.returns
returns g c =
    keeps_release g.S.Read.remaining g.S.Write.contents g.M.Service.serving c.args.place c.args.self.now c.let_go.new.self c.let_go.ensures c.requires
