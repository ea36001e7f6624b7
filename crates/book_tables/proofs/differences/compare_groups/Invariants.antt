use Rattle.book_tables.proofs.Common.{List, map, Place, placed_row, listed_row, AddsPlaces, AddsLists, compared_in}
use Rattle.book_tables_rows.specs.Adopting.{Listed}
use Rattle.book_office_values.specs.declared.paths.Path.TheVariants as path
use Rattle.book_tables.proofs.differences.compare_groups.Given as goal

-- what is added for those to come is, with what was added, what is added for all
abbrev pub invariant-loop-name : goal.invariant-loop-name
invariant-loop-name l = record {
  next : (goal.iterator-loop-name).can_next l.name-iterator;
  finite : (goal.iterator-loop-name).is_finite l.name-iterator;
  places_so_far : (new : List Place) → AddsPlaces (compared_in path.Group l.old l.name-iterator) (map placed_row l.places.items) new → AddsPlaces (compared_in path.Group l.old l.initial.name-iterator) (map placed_row l.initial.places.items) new;
  lists_so_far : (new : List Listed) → AddsLists (compared_in path.Group l.old l.name-iterator) (map listed_row l.lists.items) new → AddsLists (compared_in path.Group l.old l.initial.name-iterator) (map listed_row l.initial.lists.items) new;
}
