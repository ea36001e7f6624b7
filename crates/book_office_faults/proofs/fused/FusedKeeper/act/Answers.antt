use Rattle.std.proofs.Common.{sym, arith}
use Rattle.std.proofs.lemmas.Grind.{common_steps}
use Rattle.book_office_faults.proofs.FusedEdits.{edits_behind}
use Rattle.book_office_faults.proofs.fused.FusedKeeper.act.Goals as goal

pub returns-then-passes : goal.returns-then-passes
returns-then-passes g c = record {
  keeper = rw (sym c.passes.ensures.keeper, c.passes.ensures.failures)
      (edits_behind (g.K.Keeper.standing c.passes.new.self.keeper) (g.K.Keeper.standing c.act.new.self) c.args.self.now.failures c.act.result c.args.edit.now c.act.ensures);
  fuse = grind (arith, common_steps);
}
