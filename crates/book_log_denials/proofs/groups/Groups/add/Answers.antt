use Rattle.book_log_denials.proofs.Common.{ap, ◌∙◌, nat_list_cmp_total, names_apart}
use Rattle.std.specs.FinMap as map
use Rattle.book_office_values.proofs.TreeMaps.{put_tree}
use Rattle.book_log_denials.specs.Tallies.{more}
use Rattle.book_log_denials.proofs.groups.Groups.add.Goals as goal

pub returns : goal.returns
returns c =
    let told = c.in_ok-tally.ensures ∙ ap (more c.args.time.now) c.tally.ensures in
    put_tree nat_list_cmp_total names_apart c.self.inside.tree.entries c.insert.new.self.entries c.args.group c.in_ok-tally.tally c.in_ok-_before.ensures.updates.0
    ∙ ap (λ m. map.insert m c.args.group c.in_ok-tally.tally) c.self.view_is
    ∙ ap (map.insert c.args.self.now c.args.group) told
