use Rattle.std.proofs.Common.{◌≡◌, refl, rules, subst}
use Rattle.book_office.specs.Rounds.{IsRound}
use Rattle.book_office_cache.proofs.CachedRounds.{round_behind}
use Rattle.book_office_cache.specs.Remembering.{own_memory, remembering}
use Rattle.book_office_cache.specs.Rounds.{remembering_in}
use Rattle.book_office_cache.proofs.rounds.CachedRounds.round.Goals as goal

pub returns : goal.returns
returns g c =
    let done = c.round_behind-result in
    let was = c.args.self.now.remembered in
    let is = c.forget_unless_kept.new.remembered in
    let old = g.K.Keeper.standing c.args.self.now.keeper in
    let new = g.K.Keeper.standing done.new.keeper in
    let same : done.new.cached.work.now ≡ c.work-1.given.0 = search rules in
    subst
    (λ w. IsRound (remembering_in g.K.Rounds.inside) g.W.Work.does (remembering old (own_memory was)) (remembering new (own_memory is)) c.args.work.now w done.result)
    same
    (round_behind g.K.Rounds.inside g.W.Work.does old new _ done.new.cached was is done.result refl c.forget_unless_kept.ensures.kept c.forget_unless_kept.ensures.nothing done.ensures.round)
