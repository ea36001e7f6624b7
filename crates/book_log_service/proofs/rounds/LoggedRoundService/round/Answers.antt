use Rattle.std.proofs.Common.{rules}
use Rattle.book_log_service.proofs.LoggedRounds.{logged_kept, logged_none, logged_tried}
use Rattle.book_log_service.specs.Kept.{log_of}
use Rattle.book_log_service.proofs.rounds.LoggedRoundService.round.Goals as goal

pub returns-in_default : goal.returns-in_default
returns-in_default g c =
    logged_none g.K.Rounds.inside g.V.ServiceWork.does (g.K.Keeper.standing c.args.self.now.machine.keeper) c.args.self.now.failed
    (g.W.Write.contents c.args.self.now.writer) c.args.work.now

pub returns-in-Ok-round_over : goal.returns-in-Ok-round_over
returns-in-Ok-round_over g c =
    logged_kept g.K.Rounds.inside g.V.ServiceWork.does (g.K.Keeper.standing c.args.self.now.machine.keeper) (g.K.Keeper.standing c.round_over.new.keeper)
    c.args.self.now.failed (g.W.Write.contents c.args.self.now.writer) _ c.round_over.new.logged _ _ (log_of c.write.new.failed (g.W.Write.contents c.write.new.writer))
    c.write.ensures.followed (search rules) (search rules) c.in-Ok.ensures.empty c.in-Ok.ensures.failed c.in-Ok-round_over.ensures.round

pub returns : goal.returns
returns g c =
    logged_tried g.K.Rounds.inside g.V.ServiceWork.does (g.K.Keeper.standing c.args.self.now.machine.keeper) (g.K.Keeper.standing c.round_over.new.keeper)
    c.args.self.now.failed (g.W.Write.contents c.args.self.now.writer) _ c.round_over.new.logged _ c.in-Err.fault
    (search rules) c.in-Ok.ensures.empty c.in-Ok.ensures.failed c.in-Err.ensures.round
