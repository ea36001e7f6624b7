use Rattle.std.proofs.Common.{◌∙◌, sym, subst}
use Rattle.std.specs.List.Sorted.{IsStrictlySortedBy}
use Rattle.book_lists.specs.Principals.{path_cmp}
use Rattle.book_lists_reach.specs.Pairs.{pairs_in_rows}
use Rattle.book_lists_reach.proofs.Listing.{nothing_sorted}
use Rattle.book_lists_reach.proofs.reach.Reach.none.Goals as goal

pub invariant_of-result : goal.invariant_of-result
invariant_of-result c = (subst (IsStrictlySortedBy path_cmp) (sym c.new.ensures.items) nothing_sorted, c.new-2.ensures.len ∙ sym c.new.ensures.len)

pub returns : goal.returns
returns c = λ k. pairs_in_rows (c.new.ensures.items k) (c.new-2.ensures.items k)
