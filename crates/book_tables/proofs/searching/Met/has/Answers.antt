use Rattle.std.proofs.Common.{sym, ap, ◌∙◌}
use Rattle.std.specs.Cmp.Lexicographic.{nat_list_cmp_total}
use Rattle.std.specs.FinSet as set
use Rattle.book_tables.proofs.searching.Met.has.Goals as goal

pub returns : goal.returns
returns c = c.contains.ensures ∙ sym (set.contains-from_list nat_list_cmp_total c.self.inside.tree.keys c.args.principal.now) ∙ ap (λ s. set.contains s c.args.principal.now) c.self.view_is
