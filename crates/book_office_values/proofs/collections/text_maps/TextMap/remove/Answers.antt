use Rattle.book_office_values.proofs.Common.{sym, ap, ◌∙◌, nat_list_cmp_total}
use Rattle.std.specs.FinMap as map
use Rattle.book_office_values.proofs.NameMapLaws.{names_apart}
use Rattle.book_office_values.proofs.TreeMaps.{get_tree, drop_tree}
use Rattle.book_office_values.proofs.collections.text_maps.TextMap.remove.Goals as goal

pub returns-clause-before : goal.returns-clause-before
returns-clause-before g c =
    c.remove.ensures.value ∙ sym (get_tree nat_list_cmp_total c.self.inside.tree.entries c.args.text.now)
    ∙ ap (λ m. map.get m c.args.text.now) c.self.view_is

pub returns-clause-removed : goal.returns-clause-removed
returns-clause-removed g c =
    drop_tree nat_list_cmp_total names_apart c.self.inside.tree.entries c.remove.new.self.entries c.args.text.now c.remove.ensures.updates.0
    ∙ ap (λ m. map.remove m c.args.text.now) c.self.view_is
