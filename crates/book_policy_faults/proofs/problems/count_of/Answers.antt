use Rattle.std.proofs.Common.{sym}
use Rattle.book_policy_faults.proofs.Tests.{count_items}
use Rattle.book_policy_faults.proofs.problems.count_of.Goals as goal

pub returns : goal.returns
returns c = sym (count_items c.args.values.now)
