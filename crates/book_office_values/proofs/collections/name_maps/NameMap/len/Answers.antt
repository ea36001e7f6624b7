use Rattle.book_office_values.proofs.Common.{sym, ap, ◌∙◌, nat_list_cmp_total}
use Rattle.std.specs.FinMap as map
use Rattle.book_office_values.proofs.NameMapLaws.{names_apart}
use Rattle.book_office_values.proofs.TreeMaps.{len_tree}
use Rattle.book_office_values.proofs.collections.name_maps.NameMap.len.Goals as goal

pub returns : goal.returns
returns g c =
    c.len.ensures.len ∙ sym (len_tree nat_list_cmp_total names_apart c.self.inside.tree.entries c.self.invariant)
    ∙ ap map.len c.self.view_is
