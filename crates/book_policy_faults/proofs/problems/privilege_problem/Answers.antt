use Rattle.std.proofs.Common.{sym, ap}
use Rattle.book_policy_faults.specs.Values.{all_privileges}
use Rattle.book_policy_faults.specs.Problems.{unless}
use Rattle.book_policy_faults.specs.declared.places.Problem.TheVariants.{UnknownPrivilege}
use Rattle.book_policy_faults.proofs.Tests.{none_among}
use Rattle.book_policy_faults.proofs.problems.privilege_problem.Goals as goal

pub returns-in-None : goal.returns-in-None
returns-in-None c = ap (λ b. unless b UnknownPrivilege) (sym (none_among c.args.text.now all_privileges (rw c.in-None.is at c.from_name.ensures.unknown)))
