use Rattle.std.proofs.Common.{Err, Ok, ◌≡◌, sym, subst}
use Rattle.examples_requests.specs.KeptTogether.{MakesBoth}
use Rattle.examples_requests.proofs.KeptTogether.{both_made}
use Rattle.examples_requests.proofs.rounds.make_both.Goals as goal

pub returns-in-Ok-clause-both : goal.returns-in-Ok-clause-both
returns-in-Ok-clause-both g c =
    rw c.is_ok.ensures.value
    (both_made (g.K.Keeper.standing c.args.keeper.now) (g.K.Keeper.standing c.act.new.self) (g.K.Keeper.standing c.act-in-Ok.new.self) c.args.first.now c.args.second.now c.act-in-Ok.result c.in-Ok.ensures
    c.act-in-Ok.ensures)
