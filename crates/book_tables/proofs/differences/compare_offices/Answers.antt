use Rattle.book_tables.proofs.Common.{ap, [], ◌≡◌, map, subst, placed_row, listed_row, AddsPlaces, AddsLists}
use Rattle.book_tables.specs.Adopting.{compared}
use Rattle.book_tables.proofs.differences.compare_offices.Goals as goal

pub returns-clause-differ : goal.returns-clause-differ
returns-clause-differ c =
    let all = compared c.args.old.now c.args.new.now in
    let no_places : map placed_row c.new-places.result.items ≡ [] = ap (map placed_row) c.new-places.ensures.items in
    let no_lists : map listed_row c.new-lists.result.items ≡ [] = ap (map listed_row) c.new-lists.ensures.items in
    let groups = c.in_ok-groups.ensures in
    record {
      places_are = subst (λ l. AddsPlaces all l (map placed_row c.compare_places.new.places.items)) no_places c.in_ok-compare_places.ensures.places;
      lists_are = subst (λ l. AddsLists all l (map listed_row c.compare_places.new.lists.items)) no_lists c.in_ok-compare_places.ensures.lists;
      before = groups.0;
      before_is = groups.1;
      after = groups.2;
      after_is = groups.3;
      groups_are = groups.4;
    }
