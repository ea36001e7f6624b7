use Rattle.std.proofs.Common.{◌≡◌, inr, is_some, get_or, Option, None, Some, ap, arith, rules}
use Rattle.std.proofs.lemmas.Grind.{common_steps}
use Rattle.book_desk_loop.specs.Serving.{Line, MayGiveWayAt, line_at, line_of}
use Rattle.book_desk_loop.specs.declared.sockets.Socket.{Socket}
use Rattle.book_desk_loop.proofs.Serving.{some_any}
use Rattle.book_desk_loop.proofs.giving_way.slow_since.Goals as goal

pub returns-then-is_within_request : goal.returns-then-is_within_request
returns-then-is_within_request g c =
    let s = c.in-Some-Some.socket in
    let at : get_or c.args.sockets.now c.args.place None ≡ Some s = first_of (search rules, grind (arith, common_steps)) in
    let line : Line g.row.S.Denot = record { stream = s.stream; at_end = s.at_end; lingers = is_some s.dropped } in
    let there : line_at c.args.sockets.now c.args.place ≡ Some line = ap (λ (t : Option (Socket g.row.S.Denot)). line_of t) at in
    some_any (MayGiveWayAt c.args.connections.now.places.items c.args.sockets.now c.args.place) s.begun
    (line, there, inr (inr (c.is_slow.ensures c.if-is_slow.true, c.is_within_request.ensures c.if-is_within_request.true)))
