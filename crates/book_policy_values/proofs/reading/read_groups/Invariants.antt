use Rattle.book_policy_values.proofs.Common.{◌≡◌, ◌++◌, length, map, into_iter_items, into_iter_len, added, given_members, named_group, GroupsFit}
use Rattle.book_policy_values.proofs.reading.read_groups.Given as goal

-- the parts to come fit after those so far exactly where all fit, and the map with those to come is that of all
abbrev pub invariant-loop-part : goal.invariant-loop-part
invariant-loop-part l = record {
  fits : GroupsFit l.groups (into_iter_items l.part-iterator) → GroupsFit l.initial.groups (into_iter_items l.initial.part-iterator);
  fit : GroupsFit l.initial.groups (into_iter_items l.initial.part-iterator) → GroupsFit l.groups (into_iter_items l.part-iterator);
  parts : added l.groups (map named_group (into_iter_items l.part-iterator)) ≡ added l.initial.groups (map named_group (into_iter_items l.initial.part-iterator));
  given : l.members.items ++ map given_members (into_iter_items l.part-iterator) ≡ l.initial.members.items ++ map given_members (into_iter_items l.initial.part-iterator);
  count : into_iter_len l.part-iterator ≡ length (into_iter_items l.part-iterator);
}
