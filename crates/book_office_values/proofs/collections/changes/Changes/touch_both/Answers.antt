use Rattle.book_office_values.proofs.Entered.{free_after, indexed_both, left_touched}
use Rattle.book_office_values.proofs.Indexes.{index_free, index_undone}
use Rattle.book_office_values.proofs.collections.changes.Changes.touch_both.Goals as goal

pub enter-requires-clause-free : goal.enter-requires-clause-free
enter-requires-clause-free c = index_free c.self.inside.numbers c.self.inside.names c.self.invariant c.args.name.now

pub enter-requires-2-clause-free : goal.enter-requires-2-clause-free
enter-requires-2-clause-free c =
    rw (c.in_ok-before.ensures.names, c.in_ok-before.ensures.numbers)
    (free_after c.self.inside.numbers c.self.inside.names c.self.invariant c.args.name.now)

pub invariant_of-self-in-Ok : goal.invariant_of-self-in-Ok
invariant_of-self-in-Ok c =
    rw (c.remove-in-Ok.ensures, c.remove.ensures, c.in-Ok.ensures.before, c.in_ok-before.ensures.before, c.in-Ok.ensures.names, c.in-Ok.ensures.numbers, c.in_ok-before.ensures.names, c.in_ok-before.ensures.numbers)
    (indexed_both c.self.inside.numbers c.self.inside.names c.self.invariant c.args.name.now c.args.other.now)

pub invariant_of-self-in-Err : goal.invariant_of-self-in-Err
invariant_of-self-in-Err c =
    rw (c.leave.ensures.numbers, c.leave.ensures.names, c.in-Err.ensures.err, c.in-Err.ensures.err_names, c.in_ok-before.ensures.before, c.in_ok-before.ensures.names, c.in_ok-before.ensures.numbers, left_touched c.self.inside.numbers c.args.name.now, index_undone c.self.inside.numbers c.self.inside.names c.self.invariant c.args.name.now)
    c.self.invariant

pub returns-in-Err-clause-err : goal.returns-in-Err-clause-err
returns-in-Err-clause-err c =
    rw (c.leave.ensures.numbers, c.in-Err.ensures.err, c.in_ok-before.ensures.before, c.in_ok-before.ensures.numbers, left_touched c.self.inside.numbers c.args.name.now)
    c.self.view_is
