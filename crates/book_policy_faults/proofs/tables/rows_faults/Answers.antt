use Rattle.std.proofs.Common.{◌∙◌, ◌+◌, refl, arith}
use Rattle.book_policy_faults.proofs.Noting.{rows_more}
use Rattle.book_policy_faults.proofs.tables.rows_faults.Goals as goal

pub loop-value-preserved : goal.loop-value-preserved
loop-value-preserved c = record {
  counted = omega (arith, c.loop-value.invariant.counted);
  same = rows_more c.args.named.now c.args.kind c.loop-value.faults c.table_faults.new.faults c.loop-value.number (c.loop-value.number + 1)
      c.loop-value.value-index c.args.values.now c.value-item.result c.loop-value-test.true c.value-item.is c.in_ok-table_faults.ensures refl
      ∙ c.loop-value.invariant.same;
}
