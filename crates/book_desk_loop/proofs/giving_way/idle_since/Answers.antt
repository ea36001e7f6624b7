use Rattle.std.proofs.Common.{◌≡◌, inl, inr, is_some, get_or, Option, None, Some, ap, arith, rules}
use Rattle.std.proofs.lemmas.Grind.{common_steps}
use Rattle.book_desk_loop.specs.Serving.{Line, line_at, line_of}
use Rattle.book_desk_loop.specs.declared.sockets.Socket.{Socket}
use Rattle.book_desk_loop.proofs.giving_way.idle_since.Goals as goal

pub returns-then-is_idle : goal.returns-then-is_idle
returns-then-is_idle g c =
    let s = c.in-Some-Some.socket in
    let at : get_or c.args.sockets.now c.args.place None ≡ Some s = first_of (search rules, grind (arith, common_steps)) in
    let line : Line g.row.S.Denot = record { stream = s.stream; at_end = s.at_end; lingers = is_some s.dropped } in
    let there : line_at c.args.sockets.now c.args.place ≡ Some line = ap (λ (t : Option (Socket g.row.S.Denot)). line_of t) at in
    (line, there, inr (inl (c.is_rested.ensures c.if-is_rested.true, c.is_idle.ensures c.if-is_idle.true)))
