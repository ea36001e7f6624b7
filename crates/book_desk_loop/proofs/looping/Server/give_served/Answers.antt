use Rattle.std.proofs.Common.{refl, sym, ◌∙◌}
use Rattle.book_desk_loop.proofs.Serving.{keeps_lines, then_keeps}
use Rattle.book_desk_loop.proofs.looping.Server.give_served.Goals as goal

pub after_turn-requires-clause-done : goal.after_turn-requires-clause-done
after_turn-requires-clause-done g c e =
    (c.serve-turn.ensures.done e, λ line at. c.serve-turn.ensures.serves line (sym (c.note_begin.ensures.stay c.args.place) ∙ at))

pub after_turn-requires-clause-ended : goal.after_turn-requires-clause-ended
after_turn-requires-clause-ended g c e =
    let m = c.serve-turn.ensures.ended e in
    (m.0, c.note_begin.ensures.stay c.args.place ∙ m.1, m.2)

pub returns : goal.returns
returns g c =
    then_keeps g.S.Read.remaining g.S.Write.contents g.M.Service.serving g.F.Faults.tells c.args.self.now c.serve-turn.new.self c.after_turn.new.self c.args.faults.now c.serve-turn.new.faults c.serve-turn.ensures.goes
    (λ limits first faults y. c.after_turn.ensures limits first faults
    (keeps_lines g.S.Read.remaining g.S.Write.contents g.M.Service.serving c.serve-turn.new.self (record c.serve-turn.new.self { sockets = c.note_begin.new.sockets }) (record { limits = refl; left = refl; held = refl }) refl c.note_begin.ensures limits first faults y))
