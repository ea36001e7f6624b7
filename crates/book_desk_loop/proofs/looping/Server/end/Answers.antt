use Rattle.std.proofs.Common.{Some, refl}
use Rattle.book_desk_loop.proofs.Serving.{ends_now}
use Rattle.book_desk_loop.proofs.looping.Server.end.Goals as goal

pub returns : goal.returns
returns g c =
    let s = c.args.self.now in
    ends_now g.S.Read.remaining g.S.Write.contents g.M.Service.serving s (record s { left = Some 0 }) c.requires refl refl refl refl refl
