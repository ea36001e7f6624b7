use Rattle.book_office_values.proofs.Common.{rules, sym, ap, ◌∙◌, nat_list_cmp_total}
use Rattle.std.specs.FinMap as map
use Rattle.book_office_values.proofs.NameMapLaws.{names_apart}
use Rattle.book_office_values.proofs.TreeMaps.{entries_tree}
use Rattle.book_office_values.proofs.collections.name_maps.NameMap.iter.Goals as goal

pub returns-clause-entries : goal.returns-clause-entries
returns-clause-entries g c =
    let whole = sym (entries_tree nat_list_cmp_total names_apart c.self.inside.tree.entries c.self.invariant)
    ∙ ap map.entries c.self.view_is in
    search (rules, whole)
