use Rattle.std.proofs.Common.{rules, refl}
use Rattle.book_log_service.proofs.LoggedRounds.{logged_done}
use Rattle.book_log_service.proofs.rounds.LoggedWorkWork.run.Goals as goal

pub returns-clause-does : goal.returns-clause-does
returns-clause-does g c =
    logged_done g.W.ServiceWork.does g.K.Keeper.standing c.args.keeper.now c.run_over.new.service.keeper.now _ c.args.self.now _ _ _ _ _ _ _ refl refl refl
    c.run_over.ensures.same_notes c.run_over.ensures.same_page c.run_over.ensures.same_keeper (search rules) c.run_over.ensures.does
