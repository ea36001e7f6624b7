use Rattle.book_office_listings.proofs.Common.{sym, subst}
use Rattle.std.specs.List.Sorted.{IsStrictlySortedBy}
use Rattle.book_lists.specs.Memberships.{membership_cmp}
use Rattle.book_office_listings.proofs.memberships.OrderedPairs.none.Goals as goal

pub invariant_of-result : goal.invariant_of-result
unfolding IsStrictlySortedBy
invariant_of-result c = subst (IsStrictlySortedBy membership_cmp) (sym c.new.ensures.items) tt
