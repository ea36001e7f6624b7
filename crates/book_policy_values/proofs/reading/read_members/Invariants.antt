use Rattle.book_policy_values.proofs.Common.{◌≡◌, length, AllByRecursion, into_iter_items, into_iter_len, paired_all, MembersFit}
use Rattle.book_policy_values.proofs.reading.read_members.Given as goal

-- the groups to come fit exactly where all fit, and the pairs with those to come are those of all
abbrev pub invariant-loop-group : goal.invariant-loop-group
invariant-loop-group l = record {
  fits : AllByRecursion (MembersFit l.persons l.groups) (into_iter_items l.group-iterator)
      → AllByRecursion (MembersFit l.persons l.groups) (into_iter_items l.initial.group-iterator);
  fit : AllByRecursion (MembersFit l.persons l.groups) (into_iter_items l.initial.group-iterator)
      → AllByRecursion (MembersFit l.persons l.groups) (into_iter_items l.group-iterator);
  all : paired_all l.pairs (into_iter_items l.group-iterator) ≡ paired_all l.initial.pairs (into_iter_items l.initial.group-iterator);
  count : into_iter_len l.group-iterator ≡ length (into_iter_items l.group-iterator);
}
