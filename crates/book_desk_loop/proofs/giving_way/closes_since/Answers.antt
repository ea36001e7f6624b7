use Rattle.std.proofs.Common.{◌≡◌, inl, true, is_some, get_or, Option, None, Some, ap, arith, rules}
use Rattle.std.proofs.lemmas.Grind.{common_steps}
use Rattle.book_desk_loop.specs.Serving.{Line, line_at, line_of}
use Rattle.book_desk_loop.specs.declared.sockets.Socket.{Socket}
use Rattle.book_desk_loop.proofs.giving_way.closes_since.Goals as goal

pub returns-then-is_some : goal.returns-then-is_some
returns-then-is_some g c =
    let s = c.in-Some-Some.socket in
    let at : get_or c.args.sockets.now c.args.place None ≡ Some s = first_of (search rules, grind (arith, common_steps)) in
    let line : Line g.row.S.Denot = record { stream = s.stream; at_end = s.at_end; lingers = is_some s.dropped } in
    let there : line_at c.args.sockets.now c.args.place ≡ Some line = ap (λ (t : Option (Socket g.row.S.Denot)). line_of t) at in
    let lingers : is_some s.dropped ≡ true = first_of (search rules, grind (arith, common_steps)) in
    (line, there, inl lingers)
