use Rattle.book_office_sync.proofs.Common.{◌≡◌, length}
use Rattle.std.specs.Vec.Iter.{into_iter_items, into_iter_len}
use Rattle.book_office_sync.specs.Granted.{put_texts}
use Rattle.book_office_sync.proofs.granted.put_texts.Given as goal

-- what is told so far, with the changes to come put in, is what is told of all changes
abbrev pub invariant-loop-change : goal.invariant-loop-change
invariant-loop-change g l = record {
  parts : put_texts g.T.FromText.from_text_gives l.above l.circle l.leaf (into_iter_items l.change-iterator) l.told ≡ put_texts g.T.FromText.from_text_gives l.above l.circle l.leaf (into_iter_items l.initial.change-iterator) l.fn.told;
  count : into_iter_len l.change-iterator ≡ length (into_iter_items l.change-iterator);
}
