use Rattle.std.proofs.Common.{inr}
use Rattle.toml.specs.View.{table_view}
use Rattle.book_policy.proofs.Found.{fault_found, policy_is}
use Rattle.book_policy.proofs.policies.read_policy.Goals as goal

pub returns-in-Some-clause-policy : goal.returns-in-Some-clause-policy
returns-in-Some-clause-policy c =
    policy_is c.args.text.now (table_view c.in-Ok.table) c.if-text-gt-MAX_POLICY_BYTES.false c.in-Ok.ensures.ok c.in-Some.policy
    (rw c.in-Some.is at c.in_ok-policy.ensures.some)

pub returns-clause-fault : goal.returns-clause-fault
returns-clause-fault c =
    inr (fault_found c.args.text.now (table_view c.in-Ok.table) c.if-text-gt-MAX_POLICY_BYTES.false c.in-Ok.ensures.ok c.in_ok-fault_in-in-None.field-0
    (rw c.in-None.is at c.in_ok-policy.ensures.none) c.in_ok-fault_in-in-None.ensures)
