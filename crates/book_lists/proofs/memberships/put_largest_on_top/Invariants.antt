use Rattle.book_lists.proofs.memberships.put_largest_on_top.Given as goal

abbrev pub invariant-groups : goal.invariant-groups
invariant-groups l = Unit {0}
