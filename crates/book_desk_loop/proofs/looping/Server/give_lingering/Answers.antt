use Rattle.book_desk_loop.proofs.Serving.{keeps_then}
use Rattle.book_desk_loop.proofs.looping.Server.give_lingering.Goals as goal

pub after_turn-requires-clause-done : goal.after_turn-requires-clause-done
after_turn-requires-clause-done g c e = absurd (c.linger-turn.ensures.done e)

pub returns : goal.returns
returns g c = keeps_then g.S.Read.remaining g.S.Write.contents g.M.Service.serving c.args.self.now c.linger-turn.new.self c.after_turn.new.self c.linger-turn.ensures.keeps c.after_turn.ensures
