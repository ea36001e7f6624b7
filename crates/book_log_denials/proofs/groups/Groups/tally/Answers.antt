use Rattle.book_log_denials.proofs.Common.{sym, ap, ◌∙◌, nat_list_cmp_total}
use Rattle.std.specs.FinMap as map
use Rattle.book_office_values.proofs.TreeMaps.{get_tree}
use Rattle.book_log_denials.proofs.groups.Groups.tally.Goals as goal

pub returns : goal.returns
returns c =
    c.get.ensures.value ∙ sym (get_tree nat_list_cmp_total c.self.inside.tree.entries c.args.group.now)
    ∙ ap (λ m. map.get m c.args.group.now) c.self.view_is
