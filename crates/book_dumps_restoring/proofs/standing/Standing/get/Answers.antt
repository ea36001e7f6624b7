use Rattle.std.proofs.Common.{sym, ap, ◌∙◌}
use Rattle.std.specs.Cmp.Lexicographic.{nat_list_cmp_total}
use Rattle.std.specs.FinMap as map
use Rattle.book_office_values.proofs.TreeMaps.{get_tree}
use Rattle.book_dumps_restoring.proofs.standing.Standing.get.Goals as goal

pub returns : goal.returns
returns g c =
    c.get.ensures.value ∙ sym (get_tree nat_list_cmp_total c.self.inside.tree.entries c.args.text.now)
    ∙ ap (λ m. map.get m c.args.text.now) c.self.view_is
