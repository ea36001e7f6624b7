use Rattle.book_policy_values.proofs.Paths.{known_is}
use Rattle.book_policy_values.proofs.reading.is_known.Goals as goal

pub returns : goal.returns
returns c =
    rw c.is_some.ensures (known_is c.args.persons.now c.args.groups.now c.args.principal.now c.in_ok-found.found c.known.ensures
    (rw c.text.ensures at c.in_ok-found.ensures.some) (rw c.text.ensures at c.in_ok-found.ensures.none))
