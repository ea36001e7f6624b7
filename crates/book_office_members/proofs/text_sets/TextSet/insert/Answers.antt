use Rattle.book_office_members.proofs.Common.{sym, ap, ◌∙◌, nat_list_cmp_total}
use Rattle.std.proofs.Common.{not}
use Rattle.std.specs.FinSet as set
use Rattle.book_lists.proofs.PathSets.{updated_is_insert}
use Rattle.book_office_members.proofs.text_sets.TextSet.insert.Goals as goal

pub returns-clause-added : goal.returns-clause-added
returns-clause-added c =
    c.in_ok-insert.ensures.added ∙ ap not (sym (set.contains-from_list nat_list_cmp_total c.self.inside.tree.keys c.args.text) ∙ ap (λ s. set.contains s c.args.text) c.self.view_is)

pub returns-clause-ok : goal.returns-clause-ok
returns-clause-ok c =
    updated_is_insert c.self.inside.tree.keys c.insert.new.self.keys c.args.text c.in_ok-insert.ensures.updates.0
    ∙ ap (λ s. set.insert s c.args.text) c.self.view_is
