use Rattle.book_desk_serving.proofs.Common.{refl}
use Rattle.book_desk_serving.proofs.works.given_policy.Goals as goal

pub returns-in_ok-policy_of-in-Some-clause-policy : goal.returns-in_ok-policy_of-in-Some-clause-policy
returns-in_ok-policy_of-in-Some-clause-policy c = rw c.in-Some.is (_, refl, c.in_ok-policy_of-in-Some.ensures.policy)
