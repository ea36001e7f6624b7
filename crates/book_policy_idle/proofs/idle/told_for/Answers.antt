use Rattle.std.proofs.Common.{◌∙◌, sym}
use Rattle.book_policy_idle.proofs.idle.told_for.Goals as goal

pub idle_reason-requires-clause-idle : goal.idle_reason-requires-clause-idle
idle_reason-requires-clause-idle c = ((c.requires.marked c.args.index).0 (sym c.is_marked.ensures ∙ c.if-is_marked.true)).1
