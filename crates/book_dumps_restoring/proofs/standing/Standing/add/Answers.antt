use Rattle.std.proofs.Common.{ap, ◌∙◌}
use Rattle.std.specs.Cmp.Lexicographic.{nat_list_cmp_total}
use Rattle.std.specs.FinMap as map
use Rattle.book_office_values.proofs.NameMapLaws.{names_apart}
use Rattle.book_office_values.proofs.TreeMaps.{put_tree}
use Rattle.book_dumps_restoring.proofs.standing.Standing.add.Goals as goal

pub returns : goal.returns
returns g c =
    put_tree nat_list_cmp_total names_apart c.self.inside.tree.entries c.insert.new.self.entries c.args.text c.args.value c.in_ok-_before.ensures.updates.0
    ∙ ap (λ m. map.insert m c.args.text c.args.value) c.self.view_is
