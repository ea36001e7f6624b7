use Rattle.std.proofs.Common.{◌≡◌, ◌++◌, take}
use Rattle.std.specs.List.{flat_map}
use Rattle.book_desk_metrics.specs.Exposition.{replies_lines}
use Rattle.book_desk_metrics.proofs.exposition.push_methods.Given as goal

-- what was added so far
abbrev pub invariant-loop-method : goal.invariant-loop-method
invariant-loop-method l = l.out.items ≡ l.initial.out.items ++ flat_map (replies_lines l.counts) (take l.method-index l.methods)
