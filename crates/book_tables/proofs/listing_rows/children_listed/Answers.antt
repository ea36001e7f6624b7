use Rattle.book_tables.proofs.Common.{arith}
use Rattle.std.proofs.lemmas.Grind.{common_steps}
use Rattle.book_tables.proofs.listing_rows.children_listed.Goals as goal

pub children-preserved : goal.children-preserved
children-preserved c falls =
    let before = c.children.invariant falls in
    let child = c.in_ok-child_listed.ensures falls in
    grind (arith, common_steps, before, child, c.in_ok-push.ensures.items, c.row-item.is, c.children-test.true)
