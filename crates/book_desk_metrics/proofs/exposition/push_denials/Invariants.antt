use Rattle.std.proofs.Common.{◌≡◌, ◌++◌, take}
use Rattle.std.specs.List.{flat_map}
use Rattle.book_desk_metrics.specs.Exposition.{denials_line}
use Rattle.book_desk_metrics.proofs.exposition.push_denials.Given as goal

-- what was added so far
abbrev pub invariant-loop-privilege : goal.invariant-loop-privilege
invariant-loop-privilege l = l.out.items ≡ l.initial.out.items ++ flat_map (denials_line l.counts) (take l.privilege-index l.privileges)
