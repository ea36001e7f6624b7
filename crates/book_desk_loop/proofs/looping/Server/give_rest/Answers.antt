use Rattle.std.proofs.Common.{◌∙◌}
use Rattle.book_desk_loop.proofs.Serving.{goes_none}
use Rattle.book_desk_loop.proofs.looping.Server.give_rest.Goals as goal

pub give_served-requires : goal.give_served-requires
give_served-requires g c line e = c.is_lingering.ensures line e ∙ c.if-is_lingering.false

pub returns-then-has_failed_log-clause-goes : goal.returns-then-has_failed_log-clause-goes
returns-then-has_failed_log-clause-goes g c = goes_none g.S.Read.remaining g.S.Write.contents g.M.Service.serving g.F.Faults.tells c.args.self.now c.args.faults.now
