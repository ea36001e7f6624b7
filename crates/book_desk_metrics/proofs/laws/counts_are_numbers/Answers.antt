use Rattle.book_desk_metrics.specs.Counting.{counted, denials_of, is_denial_of, is_of, replies_to}
use Rattle.book_desk_metrics.specs.declared.counts.Counts.{Counts}
use Rattle.book_desk_metrics.proofs.Cells.{Room, counts_denial, counts_reply, has_room, keeps_room}
use Rattle.book_desk_metrics.proofs.Numbers.{number_of}
use Rattle.book_desk_metrics.proofs.laws.counts_are_numbers.Goals as goal

pub returns : goal.returns
returns c = record {
  replies = λ counts zero told m s column.
      number_of counted (λ (x : Counts). replies_to x m s) (is_of m s) Room keeps_room (counts_reply m s column) told counts (has_room counts zero)
      (zero.replies m s);
  denials = λ counts zero told p.
      number_of counted (λ (x : Counts). denials_of x p) (is_denial_of p) Room keeps_room (counts_denial p) told counts (has_room counts zero)
      (zero.denials p);
}
