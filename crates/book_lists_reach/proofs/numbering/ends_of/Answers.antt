use Rattle.std.proofs.Common.{◌≡◌, ◌++◌, ◌+◌, ◌∷◌, [], List, ℕ, take, get_or, rules, subst, sym, ap, ◌∙◌}
use Rattle.book_lists_reach.specs.Numbering.{HasEnds}
use Rattle.book_lists_reach.proofs.Places.{ends_more, no_ends}
use Rattle.book_lists_reach.proofs.numbering.ends_of.Goals as goal

pub loop-pair-init : goal.loop-pair-init
loop-pair-init c = no_ends c.new-ends.result.items

pub loop-pair-preserved : goal.loop-pair-preserved
loop-pair-preserved c =
    let list = c.args.list.now in
    let i = c.loop-pair.pair-index in
    let e = c.pair-item.result in
    let ends : List (List ℕ) = c.loop-pair.ends.items in
    let is : get_or list i e ≡ e = search rules in
    let group : c.push.new.self.items ≡ ends ++ e.group ∷ [] = ◌∙◌ {A = List (List ℕ)} c.in_ok-push.ensures.items (ap (λ p. ends ++ p ∷ []) c.in_ok-clone.ensures.cases) in
    let both : c.push-in-loop-pair.new.self.items ≡ (ends ++ e.group ∷ []) ++ e.member ∷ [] = ◌∙◌ {A = List (List ℕ)} c.in_ok-push-2.ensures.items (λ k. group k ++ c.in_ok-clone-2.ensures.cases k ∷ []) in
    subst (HasEnds (take (i + 1) list)) (sym both) (ends_more list i e ends c.loop-pair-test.true is c.loop-pair.invariant)
