use Rattle.std.proofs.Common.{[], refl, inr, sym, ◌∙◌}
use Rattle.std.proofs.lemmas.Bool.{false≢true}
use Rattle.book_desk_connections.proofs.Streams.{serves_more, serves_none, still}
use Rattle.book_desk_connections.proofs.moves.bring.Goals as goal

pub returns-then-is_stalled-clause-served : goal.returns-then-is_stalled-clause-served
returns-then-is_stalled-clause-served g c =
    let a = c.answer_more.ensures in (
      [],
      serves_more g.M.Service.serving g.S.Read.remaining g.S.Write.contents c.args.place c.args.connections.now c.answer_more.new.connections c.args.stream.now
          a.opened a.others a.served,
      λ e. refl,
    )

pub returns-then-is_stalled-clause-ended : goal.returns-then-is_stalled-clause-ended
returns-then-is_stalled-clause-ended g c e = absurd (c.answer_more.ensures.ended e)

pub returns-then-is_stalled-clause-still : goal.returns-then-is_stalled-clause-still
returns-then-is_stalled-clause-still g c e = absurd (c.answer_more.ensures.ended e)

pub returns-then-at_end-clause-served : goal.returns-then-at_end-clause-served
returns-then-at_end-clause-served g c =
    ([], serves_none g.M.Service.serving g.S.Read.remaining g.S.Write.contents c.args.place c.args.connections.now c.args.stream.now, λ e. refl)

pub returns-then-at_end-clause-there : goal.returns-then-at_end-clause-there
returns-then-at_end-clause-there g c sound = still c.args.place c.args.connections.now.places.items

pub returns-then-at_end-clause-still : goal.returns-then-at_end-clause-still
returns-then-at_end-clause-still g c e = (refl, c.is_stalled.ensures c.if-is_stalled.false)

pub returns-clause-served : goal.returns-clause-served
returns-clause-served g c =
    let t = c.take_some.ensures in
    (t.served.0, t.served.1, λ e. absurd (false≢true (sym c.if-at_end.false ∙ e)))

pub returns-clause-ended : goal.returns-clause-ended
returns-clause-ended g c e = inr (c.take_some.ensures.ended e)

pub returns-clause-still : goal.returns-clause-still
returns-clause-still g c e = (c.take_some.ensures.still e, c.is_stalled.ensures c.if-is_stalled.false)
