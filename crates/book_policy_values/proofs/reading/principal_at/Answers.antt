use Rattle.book_policy_values.proofs.Paths.{named, not_named}
use Rattle.book_policy_values.proofs.reading.principal_at.Goals as goal

pub returns-clause-some : goal.returns-clause-some
returns-clause-some c =
    let h = rw c.in-Some.is at c.in_ok-path.ensures.some in
    named c.args.persons.now c.args.groups.now c.args.text.now c.in-Some.path h.0 h.1 c.principal_of.result c.principal_of.ensures.some

pub returns-clause-none : goal.returns-clause-none
returns-clause-none c =
    let h = rw c.in-Some.is at c.in_ok-path.ensures.some in
    not_named c.args.persons.now c.args.groups.now c.args.text.now c.in-Some.path h.0 h.1 c.principal_of.result c.principal_of.ensures.none
