use Rattle.book_office_members.proofs.Common.{sym, ap, ◌∙◌, map, ◌++◌}
use Rattle.std.proofs.lemmas.Iterator.Consumers.{YieldsList-from_rest}
use Rattle.std.proofs.lemmas.Iterator.Adapters.{fact_from_extend}
use Rattle.std.proofs.lemmas.List.{map-append}
use Rattle.book_lists.specs.PrincipalSets.{ListsAll}
use Rattle.book_lists.proofs.PathSets.{contains-from_paths, len-from_keys}
use Rattle.book_office_members.proofs.text_sets.TextSet.append_to.Goals as goal

pub returns : goal.returns
returns c =
    let keys = c.self.inside.tree.keys in
    let all : ListsAll c.args.self.now keys = rw (← c.self.view_is) (record {
      each = λ q. sym (contains-from_paths keys q);
      once = sym (len-from_keys keys c.self.invariant);
    }) in
    fact_from_extend (λ y. y.now) c.extend.result c.extend.ensures.ran (λ it b. YieldsList-from_rest keys (b ∙ c.iter.ensures.rest)) (λ xs e h. (keys, all, ap (map (λ w. w.now)) h.0 ∙ map-append (λ w. w.now) c.args.list.now.items xs ∙ ap (λ ys. map (λ w. w.now) c.args.list.now.items ++ ys) e))
