use Rattle.std.proofs.Common.{◌≡◌, ◌++◌, [], sym, ap, ◌∙◌, map, append-nil, rules}
use Rattle.std.specs.Cmp.Lexicographic.{nat_list_cmp_total}
use Rattle.std.specs.FinMap.{entries}
use Rattle.book_office_values.proofs.NameMapLaws.{names_apart}
use Rattle.book_office_values.proofs.TreeMaps.{entries_tree}
use Rattle.book_dumps_restoring.proofs.standing.Standing.into_values.Goals as goal

pub returns : goal.returns
returns g c =
    let values = c.loop-value.values.items in
    let whole : c.self.inside.tree.entries ≡ entries c.args.self =
    sym (entries_tree nat_list_cmp_total names_apart c.self.inside.tree.entries c.self.invariant) ∙ ap entries c.self.view_is in
    let given : c.into_iter-value-iterator.result ≡ entries c.args.self = search (rules, whole) in
    let done : c.loop-value.value-iterator ≡ [] = search rules in
    c.from_vec.ensures ∙ sym (ap (λ es. values ++ map (λ e. e.1) es) done ∙ append-nil values) ∙ c.loop-value.invariant.parts ∙ ap (λ es. map (λ e. e.1) es) given
