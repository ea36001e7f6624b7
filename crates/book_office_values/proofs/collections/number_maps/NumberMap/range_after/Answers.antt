use Rattle.book_office_values.proofs.Common.{List, sym, ap, ◌∙◌, filter, nat_lt, nat_cmp_total, nat_cmp-IsAntisymmetric}
use Rattle.std.specs.FinMap as map
use Rattle.book_office_values.specs.Changes.{Change}
use Rattle.book_office_values.proofs.TreeMaps.{entries_tree}
use Rattle.book_office_values.proofs.Above.{above_entries}
use Rattle.book_office_values.proofs.collections.number_maps.NumberMap.range_after.Goals as goal

pub returns-clause-entries : goal.returns-clause-entries
returns-clause-entries c =
    let above : List Change → List Change = λ es. filter (λ e. nat_lt c.args.number e.0) es in
    c.range.ensures.between tt
    ∙ above_entries c.args.number c.self.inside.tree.entries
    ∙ ap above (sym (entries_tree nat_cmp_total nat_cmp-IsAntisymmetric c.self.inside.tree.entries c.self.invariant))
    ∙ ap (λ m. above (map.entries m)) c.self.view_is
