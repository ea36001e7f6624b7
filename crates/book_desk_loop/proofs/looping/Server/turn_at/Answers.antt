use Rattle.std.proofs.Common.{◌≡◌, true, is_some, Some, refl, ap, subst, arith, rules}
use Rattle.std.proofs.lemmas.Grind.{common_steps}
use Rattle.book_desk_loop.specs.Serving.{Line, line_at}
use Rattle.book_desk_connections.specs.Streams.{TakesATurn, WasAtEnd}
use Rattle.book_desk_loop.proofs.Serving.{same_line}
use Rattle.book_desk_loop.proofs.looping.Server.turn_at.Goals as goal

pub returns-in-Some-there-clause-turns : goal.returns-in-Some-there-clause-turns
returns-in-Some-there-clause-turns g c line at =
    let s = c.in-Some-there.socket in
    let before : Line g.row.S.Denot = record { stream = s.stream; at_end = s.at_end; lingers = is_some s.dropped } in
    let was : line_at c.args.self.now.sockets.items c.args.place ≡ Some before = first_of (search rules, grind (arith, common_steps)) in
    let same : before ≡ line = same_line before line (line_at c.args.self.now.sockets.items c.args.place) was at in
    let T : Line g.row.S.Denot → Type 0 = λ t. TakesATurn g.M.Service.serving g.S.Read.remaining g.S.Write.contents c.args.place c.args.self.now.connections c.take_turn.new.connections
    t.stream c.take_turn.new.stream t.at_end in
    let A : Line g.row.S.Denot → Type 0 = λ t. c.take_turn.new.at_end ≡ true → (t.at_end ≡ true → WasAtEnd g.S.Read.remaining g.S.Write.contents t.stream)
    → WasAtEnd g.S.Read.remaining g.S.Write.contents c.take_turn.new.stream in (
      record { stream = c.take_turn.new.stream; at_end = c.take_turn.new.at_end; lingers = is_some s.dropped },
      record {
        rest = record { limits = refl; left = refl; held = refl };
        was = at;
        is = (first_of (search rules, grind (arith, common_steps)));
        lingers = ap (λ (t : Line g.row.S.Denot). t.lingers) same;
        lines = (first_of (search rules, grind (arith, common_steps)));
        turn = subst T same c.take_turn.ensures.turn;
        at_end = subst A same c.take_turn.ensures.at_end;
      },
      c.take_turn.ensures.there,
      λ e. (c.take_turn.ensures.ended e).0,
    )

pub returns-in-None-there-clause-none : goal.returns-in-None-there-clause-none
returns-in-None-there-clause-none g c e = (refl, record { limits = refl; left = refl; held = refl }, refl, (first_of (search rules, grind (arith, common_steps))))
