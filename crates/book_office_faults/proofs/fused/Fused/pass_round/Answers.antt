use Rattle.std.proofs.Common.{rules, ◌≡◌, subst}
use Rattle.book_office.specs.Rounds.{IsRound}
use Rattle.book_office_faults.specs.Fuses.{behind, behind_in}
use Rattle.book_office_faults.proofs.FusedRounds.{round_passed}
use Rattle.book_office_faults.proofs.fused.Fused.pass_round.Goals as goal

pub returns : goal.returns
returns g c =
    let done = c.round_behind-result in
    let same : c.round_behind-result.new.fused.work.now ≡ c.work-1.given.0 = search rules in
    subst
    (λ w. IsRound (behind_in g.K.Rounds.inside) g.W.Work.does (behind (g.K.Keeper.standing c.args.self.now.keeper) c.args.self.now.failures)
    (behind (g.K.Keeper.standing done.new.keeper) done.new.fused.failures) c.args.work.now w done.result)
    same
    (round_passed g.K.Rounds.inside g.W.Work.does (g.K.Keeper.standing c.args.self.now.keeper) (g.K.Keeper.standing done.new.keeper) _ done.new.fused done.result done.ensures.round)
