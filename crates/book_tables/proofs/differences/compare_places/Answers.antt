use Rattle.book_tables.proofs.Common.{List, ◌++◌, map, entries, Place, placed_row, listed_row, Compared, HasLists, HasPlace, compared_in, compared_books, lists_said, place_said}
use Rattle.book_tables_rows.specs.Adopting.{Listed}
use Rattle.book_office_values.specs.declared.paths.Path.TheVariants as path
use Rattle.book_tables.specs.Adopting.{compared_homes}
use Rattle.book_tables.proofs.Comparisons.{adds_both}
use Rattle.book_tables.proofs.differences.compare_places.Goals as goal

pub returns-clause-places : goal.returns-clause-places
returns-clause-places c =
    let old = c.args.old.now in
    let new = c.args.new.now in
    let homes = compared_homes old new in
    let persons = compared_in path.Person old.persons (entries new.persons) in
    let groups = compared_in path.Group old.groups (entries new.groups) in
    let books = compared_books old.books (entries new.books) in
    let place = λ (k : Compared). place_said k.path k.new in
    let has_place = λ (k : Compared). HasPlace k.old k.new in
    let p0 : List Place = map placed_row c.args.places.now.items in
    let p1 : List Place = map placed_row c.compare_homes.new.places.items in
    let p2 : List Place = map placed_row c.compare_persons.new.places.items in
    let p3 : List Place = map placed_row c.compare_groups.new.places.items in
    let p4 : List Place = map placed_row c.compare_books.new.places.items in
    adds_both place has_place ((homes ++ persons) ++ groups) books p0 p3 p4 (adds_both place has_place (homes ++ persons) groups p0 p2 p3
    (adds_both place has_place homes persons p0 p1 p2 c.in_ok-compare_homes.ensures.places c.in_ok-compare_persons.ensures.places)
    c.in_ok-compare_groups.ensures.places) c.in_ok-compare_books.ensures.places

pub returns-clause-lists : goal.returns-clause-lists
returns-clause-lists c =
    let old = c.args.old.now in
    let new = c.args.new.now in
    let homes = compared_homes old new in
    let persons = compared_in path.Person old.persons (entries new.persons) in
    let groups = compared_in path.Group old.groups (entries new.groups) in
    let books = compared_books old.books (entries new.books) in
    let lists = λ (k : Compared). lists_said k.path k.new in
    let has_lists = λ (k : Compared). HasLists k.old k.new in
    let l0 : List Listed = map listed_row c.args.lists.now.items in
    let l1 : List Listed = map listed_row c.compare_homes.new.lists.items in
    let l2 : List Listed = map listed_row c.compare_persons.new.lists.items in
    let l3 : List Listed = map listed_row c.compare_groups.new.lists.items in
    let l4 : List Listed = map listed_row c.compare_books.new.lists.items in
    adds_both lists has_lists ((homes ++ persons) ++ groups) books l0 l3 l4 (adds_both lists has_lists (homes ++ persons) groups l0 l2 l3
    (adds_both lists has_lists homes persons l0 l1 l2 c.in_ok-compare_homes.ensures.lists c.in_ok-compare_persons.ensures.lists)
    c.in_ok-compare_groups.ensures.lists) c.in_ok-compare_books.ensures.lists
