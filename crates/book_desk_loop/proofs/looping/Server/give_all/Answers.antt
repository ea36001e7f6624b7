use Rattle.book_desk_loop.proofs.Serving.{goes_keeps, goes_then, keeps_goes}
use Rattle.book_desk_loop.proofs.looping.Server.give_all.Goals as goal

pub returns-in_err-queue_ready : goal.returns-in_err-queue_ready
returns-in_err-queue_ready g c = goes_keeps g.S.Read.remaining g.S.Write.contents g.M.Service.serving g.F.Faults.tells c.args.self.now c.queue_ready.new.self c.args.faults.now c.queue_ready.ensures

pub returns-in_err-give_again : goal.returns-in_err-give_again
returns-in_err-give_again g c =
    keeps_goes g.S.Read.remaining g.S.Write.contents g.M.Service.serving g.F.Faults.tells c.args.self.now c.queue_ready.new.self c.give_again.new.self c.args.faults.now c.give_again.new.faults
    c.queue_ready.ensures c.give_again.ensures

pub returns-in_err-give_round : goal.returns-in_err-give_round
returns-in_err-give_round g c =
    goes_then g.S.Read.remaining g.S.Write.contents g.M.Service.serving g.F.Faults.tells c.args.self.now c.give_again.new.self c.give_round.new.self c.args.faults.now c.give_again.new.faults c.give_round.new.faults
    (keeps_goes g.S.Read.remaining g.S.Write.contents g.M.Service.serving g.F.Faults.tells c.args.self.now c.queue_ready.new.self c.give_again.new.self c.args.faults.now c.give_again.new.faults
    c.queue_ready.ensures c.give_again.ensures) c.give_round.ensures

pub returns : goal.returns
returns g c =
    goes_then g.S.Read.remaining g.S.Write.contents g.M.Service.serving g.F.Faults.tells c.args.self.now c.give_round.new.self c.accept.new.self c.args.faults.now c.give_round.new.faults c.accept.new.faults
    (goes_then g.S.Read.remaining g.S.Write.contents g.M.Service.serving g.F.Faults.tells c.args.self.now c.give_again.new.self c.give_round.new.self c.args.faults.now c.give_again.new.faults c.give_round.new.faults
    (keeps_goes g.S.Read.remaining g.S.Write.contents g.M.Service.serving g.F.Faults.tells c.args.self.now c.queue_ready.new.self c.give_again.new.self c.args.faults.now c.give_again.new.faults
    c.queue_ready.ensures c.give_again.ensures) c.give_round.ensures) c.accept.ensures
