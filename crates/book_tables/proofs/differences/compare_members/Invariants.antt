use Rattle.book_tables.proofs.Common.{List, map, Joined, joined}
use Rattle.book_tables.specs.Adopting.{AddsGroups}
use Rattle.book_tables.proofs.differences.compare_members.Given as goal

-- what is added for those to come is, with what was added, what is added for all
abbrev pub invariant-loop-name : goal.invariant-loop-name
invariant-loop-name l = record {
  next : (goal.iterator-loop-name).can_next l.name-iterator;
  finite : (goal.iterator-loop-name).is_finite l.name-iterator;
  so_far : (new : List Joined) → AddsGroups l.before l.after (map (λ e. e.0) l.name-iterator) (map joined l.groups.items) new → AddsGroups l.before l.after (map (λ e. e.0) l.initial.name-iterator) (map joined l.initial.groups.items) new;
}
