use Rattle.book_office_cache.proofs.Common.{◌≡◌, Some, rules, ◌∙◌, node_at}
use Rattle.book_office_values.specs.declared.paths.Path.TheVariants as path
use Rattle.book_office_cache.proofs.Kept.{person_remembered}
use Rattle.book_office_cache.proofs.remembered.Remembered.try_person.Goals as goal

pub returns-in_ok-insert : goal.returns-in_ok-insert
returns-in_ok-insert c = λ o remembers is.
    let name : c.in_ok-name.name ≡ c.args.name.now = search rules in
    let node : Some c.in_ok-node.node ≡ c.args.node.now = search rules in
    let there : Some c.in_ok-node.node ≡ node_at o (path.Person c.in_ok-name.name) = rw name (node ∙ is) in
    rw c.in_ok-insert.ensures.ok (person_remembered c.args.self.now o remembers c.in_ok-name.name c.in_ok-node.node there)
