use Rattle.book_desk_loop.proofs.Serving.{goes_none, goes_then}
use Rattle.book_desk_loop.proofs.looping.Server.run.Goals as goal

pub loop-init : goal.loop-init
loop-init g c = goes_none g.S.Read.remaining g.S.Write.contents g.M.Service.serving g.F.Faults.tells c.args.self.now c.args.faults.now

pub loop-preserved : goal.loop-preserved
loop-preserved g c =
    goes_then g.S.Read.remaining g.S.Write.contents g.M.Service.serving g.F.Faults.tells c.args.self.now c.loop.self c.round.new.self c.args.faults.now c.loop.faults c.round.new.faults
    c.loop.invariant c.round.ensures

pub returns-in-Some : goal.returns-in-Some
returns-in-Some g c = record { goes = c.loop.invariant; ended = c.in-Some.ensures }

pub returns : goal.returns
returns g c = record { goes = c.loop.invariant; ended = tt }

pub returns-in_err-memory-clause-goes : goal.returns-in_err-memory-clause-goes
returns-in_err-memory-clause-goes g c = goes_none g.S.Read.remaining g.S.Write.contents g.M.Service.serving g.F.Faults.tells c.args.self.now c.args.faults.now

pub returns-in_err-swept-clause-goes : goal.returns-in_err-swept-clause-goes
returns-in_err-swept-clause-goes g c = goes_none g.S.Read.remaining g.S.Write.contents g.M.Service.serving g.F.Faults.tells c.args.self.now c.args.faults.now

pub returns-in_err-swept-2-clause-goes : goal.returns-in_err-swept-2-clause-goes
returns-in_err-swept-2-clause-goes g c =
    goes_then g.S.Read.remaining g.S.Write.contents g.M.Service.serving g.F.Faults.tells c.args.self.now c.loop.self c.round.new.self c.args.faults.now c.loop.faults c.round.new.faults
    c.loop.invariant c.round.ensures

pub returns-in_err-ready-clause-goes : goal.returns-in_err-ready-clause-goes
returns-in_err-ready-clause-goes g c = goes_none g.S.Read.remaining g.S.Write.contents g.M.Service.serving g.F.Faults.tells c.args.self.now c.args.faults.now
