use Rattle.book_office.proofs.Common.{◌≡◌, length, into_iter_items, into_iter_len}
use Rattle.std.specs.FinSet as set
use Rattle.book_lists.specs.Memberships.{set_of}
use Rattle.book_office.proofs.GroupMembers.{is_of_others, others_added}
use Rattle.book_office.proofs.setting.pairs_of_others.Given as goal

-- the pairs so far with those to come are those of all others
abbrev pub invariant-loop-pair : goal.invariant-loop-pair
invariant-loop-pair l = record {
  parts : others_added l.group l.others (into_iter_items l.pair-iterator) ≡ set.retain (set_of (into_iter_items l.initial.pair-iterator)) (is_of_others l.group);
  count : into_iter_len l.pair-iterator ≡ length (into_iter_items l.pair-iterator);
}
