use Rattle.book_office_values.proofs.Common.{ap, ◌∙◌, nat_cmp_total, nat_cmp-IsAntisymmetric}
use Rattle.std.specs.FinMap as map
use Rattle.book_office_values.proofs.TreeMaps.{put_tree}
use Rattle.book_office_values.proofs.collections.number_maps.NumberMap.insert.Goals as goal

pub returns-clause-ok : goal.returns-clause-ok
returns-clause-ok c =
    put_tree nat_cmp_total nat_cmp-IsAntisymmetric c.self.inside.tree.entries c.insert.new.self.entries c.args.number c.args.name c.in_ok-insert.ensures.updates.0
    ∙ ap (λ m. map.insert m c.args.number c.args.name) c.self.view_is
