use Rattle.book_policy.proofs.Common.{sym, ap, ◌∙◌}
use Rattle.book_rights.specs.Leaves.{union}
use Rattle.book_policy.proofs.Privileges.{all_named, one_more_after}
use Rattle.book_policy.proofs.entries.leaves_of.Goals as goal

pub loop-name-preserved : goal.loop-name-preserved
loop-name-preserved c =
    one_more_after c.args.names.now c.loop-name.name-index c.loop-name.set c.union-set.result c.in-Some.privilege c.name-item.result c.loop-name-test.true
    (sym c.name-item.is ∙ sym c.as_str.ensures ∙ c.in-Some.ensures.found) (c.union-set.ensures ∙ ap (union c.loop-name.set) c.leaves.ensures)
    c.loop-name.invariant

pub returns-clause-some : goal.returns-clause-some
returns-clause-some c = all_named c.args.names.now c.loop-name.name-index c.loop-name.set c.loop-name-test.false c.loop-name.invariant
