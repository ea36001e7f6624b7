use Rattle.std.proofs.Common.{◌≡◌, ◌++◌, take}
use Rattle.std.specs.List.{flat_map}
use Rattle.book_desk_metrics.specs.Exposition.{replies_line}
use Rattle.book_desk_metrics.proofs.exposition.push_row.Given as goal

-- what was added so far
abbrev pub invariant-loop-status : goal.invariant-loop-status
invariant-loop-status l = l.out.items ≡ l.initial.out.items ++ flat_map (replies_line l.counts l.method) (take l.status-index l.statuses)
