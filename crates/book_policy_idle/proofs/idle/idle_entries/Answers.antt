use Rattle.std.proofs.Common.{sym, subst}
use Rattle.book_policy_idle.specs.Idle.{AreIdleMarks}
use Rattle.book_policy_idle.proofs.idle.idle_entries.Goals as goal

pub told_entries-requires-clause-marked : goal.told_entries-requires-clause-marked
told_entries-requires-clause-marked c = subst (AreIdleMarks c.args.policy.now) (sym c.as_slice.ensures.value) c.in_ok-marks.ensures
