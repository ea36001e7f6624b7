use Rattle.book_policy_values.proofs.Common.{◌≡◌, length, AllByRecursion, into_iter_items, into_iter_len, NamesPrincipal, paired}
use Rattle.book_policy_values.specs.Policies.{direct}
use Rattle.book_policy_values.proofs.reading.add_members.Given as goal

-- the texts to come are there exactly where all are, and the pairs with those to come are those of all
abbrev pub invariant-loop-text : goal.invariant-loop-text
invariant-loop-text l = record {
  fits : AllByRecursion (NamesPrincipal l.persons l.groups) (into_iter_items l.text-iterator)
      → AllByRecursion (NamesPrincipal l.persons l.groups) (into_iter_items l.initial.text-iterator);
  fit : AllByRecursion (NamesPrincipal l.persons l.groups) (into_iter_items l.initial.text-iterator)
      → AllByRecursion (NamesPrincipal l.persons l.groups) (into_iter_items l.text-iterator);
  all : paired l.pairs (direct l.group (into_iter_items l.text-iterator)) ≡ paired l.initial.pairs (direct l.group (into_iter_items l.initial.text-iterator));
  alone : paired l.alone (direct l.group (into_iter_items l.text-iterator)) ≡ paired l.initial.alone (direct l.group (into_iter_items l.initial.text-iterator));
  count : into_iter_len l.text-iterator ≡ length (into_iter_items l.text-iterator);
}
