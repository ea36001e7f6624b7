use Rattle.std.proofs.Common.{◌++◌, List, map, ap, ◌∙◌}
use Rattle.std.specs.FinMap.{keys}
use Rattle.book_office_values.specs.declared.paths.Kind.TheVariants as kind
use Rattle.book_office_values.specs.declared.paths.Path.{Path}
use Rattle.book_policy_idle.specs.Idle.{homes, places_of}
use Rattle.book_policy_idle.specs.Marks.{path_in}
use Rattle.book_policy_idle.proofs.Telling.{joined}
use Rattle.book_policy_idle.proofs.places.places_of.Goals as goal

pub returns : goal.returns
returns c =
    let t = c.tables-tables.result.now in
    let persons = map (path_in kind.Person) (keys t.persons) in
    let groups = map (path_in kind.Group) (keys t.groups) in
    let books = map (path_in kind.Book) (keys t.books) in
    c.in_ok-add_books.ensures
    ∙ ap (λ (l : List Path). l ++ books) (c.in_ok-add_labelled-2.ensures ∙ ap (λ (l : List Path). l ++ groups) (c.in_ok-add_labelled.ensures ∙ ap (λ (l : List Path). l ++ persons) c.in_ok-places.ensures))
    ∙ joined homes persons groups books ∙ ap places_of c.tables-tables.ensures
