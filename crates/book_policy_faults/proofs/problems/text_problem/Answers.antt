use Rattle.std.proofs.Common.{◌<◌, ◌≤◌, length, arith}
use Rattle.book_limits.specs.declared.TheConstants.{MAX_LABEL_BYTES}
use Rattle.book_policy_faults.proofs.Tests.{long_text, short_text}
use Rattle.book_policy_faults.proofs.problems.text_problem.Goals as goal

pub returns-then-text-gt-MAX_LABEL_BYTES : goal.returns-then-text-gt-MAX_LABEL_BYTES
returns-then-text-gt-MAX_LABEL_BYTES c = let long : MAX_LABEL_BYTES < length c.args.text.now = omega arith in long_text c.args.text.now long

pub returns : goal.returns
returns c = let short : length c.args.text.now ≤ MAX_LABEL_BYTES = omega arith in short_text c.args.text.now c.utf8.text short
