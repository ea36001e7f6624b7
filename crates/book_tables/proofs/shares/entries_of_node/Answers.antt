use Rattle.book_tables.proofs.Common.{◌≡◌, length, take, drop, arith, rules}
use Rattle.std.proofs.Common.{◌-◌, length-drop}
use Rattle.std.proofs.lemmas.List.{take_all}
use Rattle.std.proofs.lemmas.List.Sorted.{IsPartitionPoint-from_clause}
use Rattle.book_tables.proofs.NodeShares.{is_below, is_up_to, parted_below, parted_up_to, side_by_side}
use Rattle.book_tables.proofs.shares.entries_of_node.Goals as goal

pub returns : goal.returns
returns c rising =
    let entries = c.args.entries.now in
    let node = c.args.node in
    let start = c.partition_point-start.result in
    let count = c.partition_point-count.result in
    let rest = take (length entries - start) (drop start entries) in
    let is : rest ≡ drop start entries = take_all (length entries - start) (drop start entries) (omega (arith, length-drop start entries)) in
    let first = IsPartitionPoint-from_clause (is_below node) entries start c.partition_point-start.ensures.partitioned (parted_below node entries rising) (λ a r q k. search rules) in
    let last = IsPartitionPoint-from_clause (is_up_to node) rest count c.partition_point-count.ensures.partitioned (parted_up_to node entries rising start rest is) (λ a r q k. search rules) in
    side_by_side node entries rising start c.partition_point-start.ensures.bound first count rest is c.partition_point-count.ensures.bound last
