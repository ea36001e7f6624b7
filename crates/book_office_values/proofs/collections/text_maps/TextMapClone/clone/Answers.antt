use Rattle.book_office_values.proofs.Common.{sym, ap, ◌∙◌, subst, nat_list_cmp_total, IsStrictlySortedBy, name_cmp}
use Rattle.std.specs.FinMap as map
use Rattle.book_office_values.proofs.NameMapLaws.{names_apart}
use Rattle.book_office_values.proofs.TreeMaps.{entries_tree, same_keys}
use Rattle.book_office_values.proofs.collections.text_maps.TextMapClone.clone.Goals as goal

pub returns : goal.returns
returns g c =
    let whole = sym (ap map.entries c.self.view_is) ∙ entries_tree nat_list_cmp_total names_apart c.self.inside.tree.entries c.self.invariant in
    let keys = same_keys g.V.Clone.is_clone c.self.inside.tree.entries c.in_ok-tree.tree.entries c.in_ok-tree.ensures.cases in
    let copied = entries_tree nat_list_cmp_total names_apart c.in_ok-tree.tree.entries (subst (IsStrictlySortedBy name_cmp) (sym keys) c.self.invariant) in
    record { cases = rw whole (rw copied c.in_ok-tree.ensures.cases) }
