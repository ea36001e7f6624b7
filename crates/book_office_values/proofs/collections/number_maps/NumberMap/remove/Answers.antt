use Rattle.book_office_values.proofs.Common.{ap, ◌∙◌, nat_cmp_total, nat_cmp-IsAntisymmetric}
use Rattle.std.specs.FinMap as map
use Rattle.book_office_values.proofs.TreeMaps.{drop_tree}
use Rattle.book_office_values.proofs.collections.number_maps.NumberMap.remove.Goals as goal

pub returns-in-Some : goal.returns-in-Some
returns-in-Some c = rw c.in-Some.is (
    drop_tree nat_cmp_total nat_cmp-IsAntisymmetric c.self.inside.tree.entries c.remove.new.self.entries c.in-Some.number c.remove.ensures.updates.0
    ∙ ap (λ m. map.remove m c.in-Some.number) c.self.view_is)
