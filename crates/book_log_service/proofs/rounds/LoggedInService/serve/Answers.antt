use Rattle.std.proofs.Common.{[], ◌∷◌}
use Rattle.book_log_service.proofs.LoggedRounds.{owes_page}
use Rattle.book_log_service.proofs.rounds.LoggedInService.serve.Goals as goal

pub returns : goal.returns
returns g c =
    let l = c.args.self.now in
    owes_page (l.notes.ghost_name ∷ l.page.ghost_name ∷ l.keeper.ghost_name ∷ []) _ _ (g.K.Keeper.standing l.keeper.now)
    (g.K.Keeper.standing c.serve_over.new.machine.keeper.now) _ _ _ _ _ _ _ _ c.serve_over.ensures.text c.serve_over.ensures.owes
