use Rattle.std.proofs.Common.{◌≡◌, true, is_some, Some, refl, subst, arith, rules}
use Rattle.std.proofs.lemmas.Grind.{common_steps}
use Rattle.book_desk_loop.specs.Closing.{DropsSome}
use Rattle.book_desk_loop.specs.Serving.{Line, line_at}
use Rattle.book_desk_loop.proofs.Serving.{same_line}
use Rattle.book_desk_loop.proofs.socket_places.drop_at.Goals as goal

pub returns-in-Some-there-clause-there : goal.returns-in-Some-there-clause-there
returns-in-Some-there-clause-there g c line at =
    let s = c.in-Some-there.socket in
    let before : Line g.row.S.Denot = record { stream = s.stream; at_end = s.at_end; lingers = is_some s.dropped } in
    let was : line_at c.args.sockets.now.items c.args.place ≡ Some before = first_of (search rules, grind (arith, common_steps)) in
    let same : before ≡ line = same_line before line (line_at c.args.sockets.now.items c.args.place) was at in
    let D : Line g.row.S.Denot → Type 0 = λ t. DropsSome (g.S.Read.remaining t.stream) (g.S.Read.remaining c.drop_some-came.new.reader) in
    (record { stream = c.drop_some-came.new.reader; at_end = s.at_end; lingers = true }, (first_of (search rules, grind (arith, common_steps))), subst D same c.drop_some-came.ensures, refl)
