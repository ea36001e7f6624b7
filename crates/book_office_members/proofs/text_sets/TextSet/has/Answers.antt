use Rattle.book_office_members.proofs.Common.{sym, ap, ◌∙◌, nat_list_cmp_total}
use Rattle.std.specs.FinSet as set
use Rattle.book_office_members.proofs.text_sets.TextSet.has.Goals as goal

pub returns : goal.returns
returns c = c.contains.ensures ∙ sym (set.contains-from_list nat_list_cmp_total c.self.inside.tree.keys c.args.text.now) ∙ ap (λ s. set.contains s c.args.text.now) c.self.view_is
