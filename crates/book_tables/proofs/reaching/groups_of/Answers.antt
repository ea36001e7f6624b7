use Rattle.book_tables.proofs.Common.{◌≡◌, ◌+◌, inl, inr, take, get_or, rules, sym, subst}
use Rattle.book_tables.specs.Reach.{AreGroupsTold}
use Rattle.book_tables.proofs.ReachedGroups.{one_group_more, no_group_more}
use Rattle.book_tables.proofs.reaching.groups_of.Goals as goal

pub rows-preserved : goal.rows-preserved
rows-preserved c =
    let rows = c.args.rows.now in
    let row = c.row-item.result in
    let before = c.rows.groups.items in
    let is : get_or rows c.rows.row-index row ≡ row = search rules in
    elim c.in_ok-push_group.ensures [
      | inl some ↦ subst (AreGroupsTold (take (c.rows.row-index + 1) rows)) (sym some.3) (one_group_more rows c.rows.row-index row before c.rows-test.true is c.rows.invariant some.0 some.1 some.2)
      | inr none ↦ subst (AreGroupsTold (take (c.rows.row-index + 1) rows)) (sym none.1) (no_group_more rows c.rows.row-index row before c.rows-test.true is c.rows.invariant none.0)
    ]
