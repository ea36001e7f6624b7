use Rattle.std.proofs.Common.{List, Option, subst}
use Rattle.book_desk_loop.specs.Serving.{MayGiveWayAt}
use Rattle.book_desk_loop.specs.declared.sockets.Socket.{Socket}
use Rattle.book_desk_loop.proofs.Serving.{way_goes}
use Rattle.book_desk_loop.proofs.looping.Server.make_room.Goals as goal

pub release-requires : goal.release-requires
release-requires g c =
    let s = c.args.self.now in
    let P : List (Option (Socket g.row.S.Denot)) → Type 0 = λ t. MayGiveWayAt s.connections.places.items t c.in-Some.place in
    way_goes g.S.Read.remaining g.S.Write.contents s.limits s.connections.places.items s.sockets.items c.in-Some.place
    (subst P c.as_slice.ensures.value c.in-Some.ensures)
