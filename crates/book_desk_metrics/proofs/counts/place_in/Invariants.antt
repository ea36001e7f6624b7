use Rattle.std.proofs.Common.{◌≡◌, ◌+◌, drop}
use Rattle.book_desk_metrics.specs.Counting.{place_in}
use Rattle.book_desk_metrics.proofs.counts.place_in.Given as goal

-- it is at none of the places before
abbrev pub invariant-loop-place : goal.invariant-loop-place
invariant-loop-place l = place_in l.x l.xs ≡ l.place + place_in l.x (drop l.place l.xs)
