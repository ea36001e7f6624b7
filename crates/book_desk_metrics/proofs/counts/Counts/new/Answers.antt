use Rattle.std.proofs.Common.{ℕ, arith}
use Rattle.std.proofs.lemmas.List.{get_or-replicate}
use Rattle.std.proofs.Math.ListN.{length-replicate}
use Rattle.book_desk_metrics.specs.Counting.{cell, privilege_place}
use Rattle.book_desk_metrics.proofs.Cells.{cell_below}
use Rattle.book_desk_metrics.proofs.Places.{privilege_place_below}
use Rattle.book_desk_metrics.proofs.counts.Counts.new.Goals as goal

pub returns : goal.returns
returns c = record {
  room = length-replicate {A = ℕ} 221 0;
  denied_room = length-replicate {A = ℕ} 12 0;
  replies = λ m s. get_or-replicate 221 (cell m s) 0 0 (cell_below m s);
  denials = λ p. get_or-replicate 12 (privilege_place p) 0 0 (omega (arith, privilege_place_below p));
}
