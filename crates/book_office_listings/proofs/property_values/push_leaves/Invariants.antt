use Rattle.book_office_listings.proofs.Common.{◌≡◌, ◌++◌, take, filter_map, all_leaves}
use Rattle.book_office_listings.specs.Values.{if_granted}
use Rattle.book_office_listings.proofs.property_values.push_leaves.Given as goal

-- the names of the leaves so far
abbrev pub invariant-loop-leaf : goal.invariant-loop-leaf
invariant-loop-leaf l = l.names.items ≡ l.initial.names.items ++ filter_map (if_granted l.set) (take l.leaf-index all_leaves)
