use Rattle.std.proofs.lemmas.Result.{IfOk-weaker}
use Rattle.book_lists.proofs.Common.{◌≡◌, ◌++◌, ◌∷◌, [], map, ap, ◌∙◌, subst, pairs_in}
use Rattle.book_lists.specs.Memberships.{Memberships}
use Rattle.book_lists.specs.PrincipalSets.{IsClosure, IsFound}
use Rattle.book_lists.proofs.Reaching.{none_known}
use Rattle.book_lists.proofs.Searches.{found_alone}
use Rattle.book_lists.proofs.memberships.Pairs.closure_of.Goals as goal

pub returns : goal.returns
returns c =
    let principal = c.args.principal.now in
    let pairs = pairs_in c.self.inside.groups.entries in
    let items : map (λ w. w.now) c.push.new.self.items ≡ principal ∷ [] = ap (map (λ w. w.now)) (c.in_ok-push.ensures.items ∙ ap (λ ws. ws ++ c.args.principal ∷ []) c.new-work.ensures.items) in
    IfOk-weaker c.search.result _ _ (λ found is. subst (λ (p : Memberships). IsClosure p principal found) c.self.view_is (found_alone pairs principal found (subst (λ s. IsFound pairs s found) items is))) c.search.ensures

pub search-requires-clause-known : goal.search-requires-clause-known
search-requires-clause-known c = none_known (pairs_in c.self.inside.groups.entries) c.new-none_known.result c.new-none_known.ensures
