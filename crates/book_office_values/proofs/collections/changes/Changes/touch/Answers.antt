use Rattle.book_office_values.proofs.Indexes.{indexed_touched, index_free}
use Rattle.book_office_values.proofs.collections.changes.Changes.touch.Goals as goal

pub enter-requires-clause-free : goal.enter-requires-clause-free
enter-requires-clause-free c = index_free c.self.inside.numbers c.self.inside.names c.self.invariant c.args.name.now

pub invariant_of-self-2 : goal.invariant_of-self-2
invariant_of-self-2 c =
    rw (c.remove.ensures, c.in_ok-before.ensures.before, c.in_ok-before.ensures.names, c.in_ok-before.ensures.numbers)
    (indexed_touched c.self.inside.numbers c.self.inside.names c.self.invariant c.args.name.now)
