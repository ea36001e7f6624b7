use Rattle.std.proofs.Common.{rules, ◌≡◌, subst, Ok, Err}
use Rattle.book_wire_serving.specs.Rounds.{IsServedRound}
use Rattle.book_desk_metrics.specs.CountedRounds.{counted_in}
use Rattle.book_desk_metrics.proofs.CountedRounds.{round_counted}
use Rattle.book_desk_metrics.proofs.rounds.CountedRoundService.round.Goals as goal

pub returns-in-Ok-clause-round : goal.returns-in-Ok-clause-round
returns-in-Ok-clause-round g c =
    let same : c.round_over.new.counted.work.now ≡ c.work-1.given.0 = search rules in
    subst
    (λ w. IsServedRound (counted_in g.M.RoundService.inside) g.W.ServiceWork.does (g.M.Service.serving c.args.self.now.service) (g.M.Service.serving c.round_over.new.service) c.args.work.now w (Ok tt))
    same
    (round_counted g.M.RoundService.inside g.W.ServiceWork.does (g.M.Service.serving c.args.self.now.service) (g.M.Service.serving c.round_over.new.service) _ c.round_over.new.counted (Ok tt) c.in-Ok.ensures.round)

pub returns-in-Err-clause-round : goal.returns-in-Err-clause-round
returns-in-Err-clause-round g c =
    let same : c.round_over.new.counted.work.now ≡ c.in-Err.work-in-Err-1-own.given.0 = search rules in
    subst
    (λ w. IsServedRound (counted_in g.M.RoundService.inside) g.W.ServiceWork.does (g.M.Service.serving c.args.self.now.service) (g.M.Service.serving c.round_over.new.service) c.args.work.now w (Err c.in-Err.fault))
    same
    (round_counted g.M.RoundService.inside g.W.ServiceWork.does (g.M.Service.serving c.args.self.now.service) (g.M.Service.serving c.round_over.new.service) _ c.round_over.new.counted (Err c.in-Err.fault) c.in-Err.ensures.round)
