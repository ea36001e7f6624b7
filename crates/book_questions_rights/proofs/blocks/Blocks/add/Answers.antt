use Rattle.book_questions_rights.proofs.Common.{ap, ◌∙◌, nat_list_cmp_total, names_apart}
use Rattle.std.specs.FinMap as map
use Rattle.book_office_values.proofs.TreeMaps.{put_tree}
use Rattle.book_questions_rights.proofs.blocks.Blocks.add.Goals as goal

pub returns : goal.returns
returns c =
    put_tree nat_list_cmp_total names_apart c.self.inside.tree.entries c.insert.new.self.entries c.args.key c.args.text c.in_ok-_before.ensures.updates.0
    ∙ ap (λ m. map.insert m c.args.key c.args.text) c.self.view_is
