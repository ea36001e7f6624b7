use Rattle.book_desk_loop.proofs.Serving.{goes_keeps, keeps_goes, then_keeps}
use Rattle.book_desk_loop.proofs.looping.Server.round.Goals as goal

pub returns-in_err-now : goal.returns-in_err-now
returns-in_err-now g c = goes_keeps g.S.Read.remaining g.S.Write.contents g.M.Service.serving g.F.Faults.tells c.args.self.now c.wait.new.self c.args.faults.now c.wait.ensures

pub returns-in_err-give_all : goal.returns-in_err-give_all
returns-in_err-give_all g c =
    keeps_goes g.S.Read.remaining g.S.Write.contents g.M.Service.serving g.F.Faults.tells c.args.self.now c.wait.new.self c.give_all.new.self c.args.faults.now c.give_all.new.faults c.wait.ensures c.give_all.ensures

pub returns : goal.returns
returns g c =
    then_keeps g.S.Read.remaining g.S.Write.contents g.M.Service.serving g.F.Faults.tells c.args.self.now c.give_all.new.self c.look_round.new.self c.args.faults.now c.give_all.new.faults
    (keeps_goes g.S.Read.remaining g.S.Write.contents g.M.Service.serving g.F.Faults.tells c.args.self.now c.wait.new.self c.give_all.new.self c.args.faults.now c.give_all.new.faults c.wait.ensures c.give_all.ensures)
    c.look_round.ensures
