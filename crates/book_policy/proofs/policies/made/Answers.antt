use Rattle.book_policy.proofs.Whole.{made_none, made_some, unread}
use Rattle.book_policy.proofs.policies.made.Goals as goal

pub returns-in_default-clause-none : goal.returns-in_default-clause-none
returns-in_default-clause-none c = λ _. unread c.args.parts (rw c.in_default.is at c.in_ok-entries.ensures.none)

pub returns-clause-some : goal.returns-clause-some
returns-clause-some c = λ _.
    let read = rw c.in-Some.is at c.in_ok-entries.ensures.some in
    made_some c.args.parts c.in-Some.entries read.0 c.new.result read.1 c.new.ensures.faultless c.new.ensures.policy

pub returns-clause-none : goal.returns-clause-none
returns-clause-none c = λ s.
    let read = rw c.in-Some.is at c.in_ok-entries.ensures.some in
    made_none c.args.parts c.in-Some.entries read.0 c.new.result s c.new.ensures.faultless
