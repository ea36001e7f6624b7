use Rattle.book_policy_values.proofs.Common.{◌≡◌, length, map, into_iter_items, into_iter_len, added, named_person, PersonsFit}
use Rattle.book_policy_values.proofs.reading.read_persons.Given as goal

-- the parts to come fit after those so far exactly where all fit, and the map with those to come is that of all
abbrev pub invariant-loop-part : goal.invariant-loop-part
invariant-loop-part l = record {
  fits : PersonsFit l.persons (into_iter_items l.part-iterator) → PersonsFit l.initial.persons (into_iter_items l.initial.part-iterator);
  fit : PersonsFit l.initial.persons (into_iter_items l.initial.part-iterator) → PersonsFit l.persons (into_iter_items l.part-iterator);
  parts : added l.persons (map named_person (into_iter_items l.part-iterator)) ≡ added l.initial.persons (map named_person (into_iter_items l.initial.part-iterator));
  count : into_iter_len l.part-iterator ≡ length (into_iter_items l.part-iterator);
}
