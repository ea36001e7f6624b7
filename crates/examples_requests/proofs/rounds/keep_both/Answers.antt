use Rattle.examples_requests.proofs.KeptTogether.{both_kept}
use Rattle.examples_requests.proofs.rounds.keep_both.Goals as goal

pub returns : goal.returns
returns g c =
    both_kept g.K.Rounds.inside _ (g.K.Keeper.standing c.args.keeper.now) (g.K.Keeper.standing c.round.new.self) _ c.round.new.work c.args.first.now c.args.second.now c.round.new.work.made
    (λ s t d. d) c.in_ok-round.ensures
