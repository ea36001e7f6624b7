use Rattle.book_desk_loop.proofs.Serving.{goes_then}
use Rattle.book_desk_loop.proofs.looping.Server.read_and_go_on.Goals as goal

pub returns-in-Again : goal.returns-in-Again
returns-in-Again g c =
    goes_then g.S.Read.remaining g.S.Write.contents g.M.Service.serving g.F.Faults.tells c.args.self.now c.serve.new.self c.go_on.new.self c.args.faults.now c.serve.new.faults c.go_on.new.faults
    c.serve.ensures.goes c.go_on.ensures
