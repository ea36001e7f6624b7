use Rattle.std.proofs.Common.{◌≡◌, inl, inr, true, false, is_some, get_or, Option, None, Some, ap, arith, rules}
use Rattle.std.proofs.lemmas.Grind.{common_steps}
use Rattle.book_desk_loop.specs.Serving.{Line, line_at, line_of}
use Rattle.book_desk_loop.specs.declared.sockets.Socket.{Socket}
use Rattle.book_desk_loop.proofs.looping.Server.is_over.Goals as goal

pub returns-then-is_some : goal.returns-then-is_some
returns-then-is_some g c e =
    let s = c.in-Some-Some.socket in
    let at : get_or c.args.self.now.sockets.items c.args.place None ≡ Some s = first_of (search rules, grind (arith, common_steps)) in
    let line : Line g.row.S.Denot = record { stream = s.stream; at_end = s.at_end; lingers = is_some s.dropped } in
    let there : line_at c.args.self.now.sockets.items c.args.place ≡ Some line = ap (λ (t : Option (Socket g.row.S.Denot)). line_of t) at in
    let l : is_some s.dropped ≡ true = first_of (search rules, grind (arith, common_steps)) in
    (line, there, inl l)

pub returns-then-is_idle : goal.returns-then-is_idle
returns-then-is_idle g c e =
    let s = c.in-Some-Some.socket in
    let at : get_or c.args.self.now.sockets.items c.args.place None ≡ Some s = first_of (search rules, grind (arith, common_steps)) in
    let line : Line g.row.S.Denot = record { stream = s.stream; at_end = s.at_end; lingers = is_some s.dropped } in
    let there : line_at c.args.self.now.sockets.items c.args.place ≡ Some line = ap (λ (t : Option (Socket g.row.S.Denot)). line_of t) at in
    let l : is_some s.dropped ≡ false = first_of (search rules, grind (arith, common_steps)) in
    (line, there, inr (inl (l, c.is_idle.ensures c.if-is_idle.true)))

pub returns-then-has_passed : goal.returns-then-has_passed
returns-then-has_passed g c e =
    let s = c.in-Some-Some.socket in
    let at : get_or c.args.self.now.sockets.items c.args.place None ≡ Some s = first_of (search rules, grind (arith, common_steps)) in
    let line : Line g.row.S.Denot = record { stream = s.stream; at_end = s.at_end; lingers = is_some s.dropped } in
    let there : line_at c.args.self.now.sockets.items c.args.place ≡ Some line = ap (λ (t : Option (Socket g.row.S.Denot)). line_of t) at in
    let l : is_some s.dropped ≡ false = first_of (search rules, grind (arith, common_steps)) in
    (line, there, inr (inr (inr (inl (l, c.has_passed-in-Some-Some.ensures e)))))

pub returns-else-has_passed : goal.returns-else-has_passed
returns-else-has_passed g c e =
    let s = c.in-Some-Some.socket in
    let at : get_or c.args.self.now.sockets.items c.args.place None ≡ Some s = first_of (search rules, grind (arith, common_steps)) in
    let line : Line g.row.S.Denot = record { stream = s.stream; at_end = s.at_end; lingers = is_some s.dropped } in
    let there : line_at c.args.self.now.sockets.items c.args.place ≡ Some line = ap (λ (t : Option (Socket g.row.S.Denot)). line_of t) at in
    let l : is_some s.dropped ≡ false = first_of (search rules, grind (arith, common_steps)) in
    (line, there, inr (inr (inr (inl (l, c.is_late.ensures e)))))
