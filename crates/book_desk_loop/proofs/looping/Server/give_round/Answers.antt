use Rattle.book_desk_loop.proofs.Serving.{goes_then, keeps_goes, then_keeps}
use Rattle.book_desk_loop.proofs.looping.Server.give_round.Goals as goal

pub returns-in_err-give_rests : goal.returns-in_err-give_rests
returns-in_err-give_rests g c =
    goes_then g.S.Read.remaining g.S.Write.contents g.M.Service.serving g.F.Faults.tells c.args.self.now c.serve_round-part.new.self c.give_rests.new.self c.args.faults.now c.serve_round-part.new.faults c.give_rests.new.faults
    (keeps_goes g.S.Read.remaining g.S.Write.contents g.M.Service.serving g.F.Faults.tells c.args.self.now _ c.serve_round-part.new.self c.args.faults.now c.serve_round-part.new.faults (λ limits first faults y. y) c.serve_round-part.ensures)
    c.give_rests.ensures

pub returns : goal.returns
returns g c =
    then_keeps g.S.Read.remaining g.S.Write.contents g.M.Service.serving g.F.Faults.tells c.args.self.now c.give_rests.new.self _ c.args.faults.now c.give_rests.new.faults
    (goes_then g.S.Read.remaining g.S.Write.contents g.M.Service.serving g.F.Faults.tells c.args.self.now c.serve_round-part.new.self c.give_rests.new.self c.args.faults.now c.serve_round-part.new.faults c.give_rests.new.faults
    (keeps_goes g.S.Read.remaining g.S.Write.contents g.M.Service.serving g.F.Faults.tells c.args.self.now _ c.serve_round-part.new.self c.args.faults.now c.serve_round-part.new.faults (λ limits first faults y. y) c.serve_round-part.ensures)
    c.give_rests.ensures) (λ limits first faults y. y)
