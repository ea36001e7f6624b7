use Rattle.book_desk_loop.proofs.Serving.{goes_keeps}
use Rattle.book_desk_loop.proofs.looping.Server.go_on.Goals as goal

pub returns-then-may_join : goal.returns-then-may_join
returns-then-may_join g c = goes_keeps g.S.Read.remaining g.S.Write.contents g.M.Service.serving g.F.Faults.tells c.args.self.now c.join_round.new.self c.args.faults.now c.join_round.ensures
