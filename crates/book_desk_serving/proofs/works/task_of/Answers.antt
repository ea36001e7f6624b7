use Rattle.book_desk_serving.proofs.Common.{refl}
use Rattle.book_desk_serving.proofs.works.task_of.Goals as goal

pub returns-in_ok-policy_of-in-Some-clause-task : goal.returns-in_ok-policy_of-in-Some-clause-task
returns-in_ok-policy_of-in-Some-clause-task c = rw c.in-Import.is (rw c.in-Some.is (_, refl, c.in_ok-policy_of-in-Some.ensures.policy))
