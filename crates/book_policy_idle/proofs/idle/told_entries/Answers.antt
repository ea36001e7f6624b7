use Rattle.book_policy_idle.proofs.ToldEntries.{told_more}
use Rattle.book_policy_idle.proofs.idle.told_entries.Goals as goal

pub loop-index-preserved : goal.loop-index-preserved
loop-index-preserved c =
    told_more c.args.policy.now c.as_slice-entries.result.now c.loop-index.index c.index-entries-index.result c.loop-index.idle c.add_told.new.idle
    c.loop-index-test.true c.index-entries-index.is c.loop-index.invariant c.in_ok-add_told.ensures
