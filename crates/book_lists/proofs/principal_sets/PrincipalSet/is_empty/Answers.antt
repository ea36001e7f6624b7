use Rattle.book_lists.proofs.Common.{sym, ap, ◌∙◌}
use Rattle.std.specs.FinSet as set
use Rattle.book_lists.proofs.PathSets.{not_empty, none_in}
use Rattle.book_lists.proofs.principal_sets.PrincipalSet.is_empty.Goals as goal

pub returns-clause-some : goal.returns-clause-some
returns-clause-some c is =
    let one = not_empty c.self.inside.tree.keys c.is_empty.result c.is_empty.ensures.1 is in
    (one.0, sym (ap (λ s. set.contains s one.0) c.self.view_is) ∙ one.1)

pub returns-clause-none : goal.returns-clause-none
returns-clause-none c is q = sym (ap (λ s. set.contains s q) c.self.view_is) ∙ none_in c.self.inside.tree.keys (c.is_empty.ensures.0 is) q
