use Rattle.std.proofs.Common.{sym, ◌∙◌}
use Rattle.book_office_faults.specs.Fuses.{behind_in}
use Rattle.book_office_faults.proofs.FusedRounds.{not_passed}
use Rattle.book_office_faults.proofs.rounds.FusedRounds.round.Goals as goal

pub returns-then-passes : goal.returns-then-passes
returns-then-passes g c = rw (sym c.passes.ensures.keeper, sym c.passes.ensures.failures) c.pass_round.ensures

pub returns-else-passes : goal.returns-else-passes
returns-else-passes g c =
    not_passed g.K.Keeper.standing (behind_in g.K.Rounds.inside) g.W.Work.does c.args.self.now.keeper c.fail.new.self.keeper c.args.self.now.failures c.fail.new.self.failures c.args.work.now
    c.fail.result c.fail.ensures.fault (c.fail.ensures.keeper ∙ c.passes.ensures.keeper) (rw c.passes.ensures.failures at c.fail.ensures.counted)
