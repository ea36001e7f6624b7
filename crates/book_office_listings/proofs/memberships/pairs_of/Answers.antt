use Rattle.book_office_listings.proofs.Common.{◌≡◌, length, take, arith}
use Rattle.std.proofs.Common.{◌-◌, drop, length-drop, rules}
use Rattle.std.proofs.lemmas.List.{take_all}
use Rattle.std.proofs.lemmas.List.Sorted.{IsPartitionPoint-from_clause}
use Rattle.book_office_listings.proofs.GroupPairs.{is_below, is_up_to, parted_below, parted_up_to, side_by_side}
use Rattle.book_office_listings.proofs.memberships.pairs_of.Goals as goal

pub returns : goal.returns
returns c sorted =
    let pairs = c.args.pairs.now in
    let group = c.args.group.now in
    let start = c.partition_point-start.result in
    let count = c.partition_point-count.result in
    let rest = take (length pairs - start) (drop start pairs) in
    let is : rest ≡ drop start pairs = take_all (length pairs - start) (drop start pairs) (omega (arith, length-drop start pairs)) in
    let first = IsPartitionPoint-from_clause (is_below group) pairs start c.partition_point-start.ensures.partitioned (parted_below group pairs sorted) (λ a r q k. search rules) in
    let last = IsPartitionPoint-from_clause (is_up_to group) rest count c.partition_point-count.ensures.partitioned (parted_up_to group pairs sorted start rest is) (λ a r q k. search rules) in
    side_by_side group pairs sorted start c.partition_point-start.ensures.bound first count rest is c.partition_point-count.ensures.bound last
