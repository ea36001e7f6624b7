use Rattle.book_lists.proofs.Common.{◌≡◌, ℕ, Ok, length, arith, sym, ◌∙◌, nat_list_cmp_total, path_cmp}
use Rattle.std.specs.BTreeSet.{IsFromIterResult}
use Rattle.std.proofs.lemmas.Iterator.Adapters.{fact_from_collect, YieldsList-from_vec}
use Rattle.std.specs.FinSet as set
use Rattle.book_lists.proofs.PathSets.{paths_exact}
use Rattle.book_lists.proofs.principal_sets.PrincipalSet.of.Goals as goal

pub returns : goal.returns
returns c =
    let tree = c.in_ok-collect.field-0 in
    let list = c.args.list.items in
    let all : c.into_iter.result.rest.len ≡ length list = omega (arith, c.into_iter.ensures.len, c.args.list.ok.0) in
    let whole = fact_from_collect {E = ℕ} (IsFromIterResult path_cmp) (Ok tree) c.in_ok-collect.ensures.ran (YieldsList-from_vec list c.into_iter.ensures.rest all) in
    set.same_set nat_list_cmp_total paths_exact _ _ (λ q.
    set.contains-from_list nat_list_cmp_total tree.keys q ∙ whole.0 q ∙ sym (set.contains-from_list nat_list_cmp_total list q))
