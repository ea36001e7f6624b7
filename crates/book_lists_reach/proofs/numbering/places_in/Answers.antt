use Rattle.std.proofs.Common.{◌≡◌, ◌++◌, ◌+◌, ◌∷◌, [], List, ℕ, Option, take, get_or, rules, subst, sym, ap, ◌∙◌, add-one}
use Rattle.std.proofs.Math.Seq.{take-suc}
use Rattle.book_lists_reach.specs.Numbering.{ArePlaces}
use Rattle.book_lists_reach.proofs.Places.{places_push}
use Rattle.book_lists_reach.proofs.numbering.places_in.Goals as goal

pub loop-principal-preserved : goal.loop-principal-preserved
loop-principal-preserved c =
    let ps : List (List ℕ) = c.args.principals.now in
    let others : List (List ℕ) = c.args.others.now in
    let i = c.loop-principal.principal-index in
    let p : List ℕ = c.principal-item.result in
    let ns : List (Option ℕ) = c.loop-principal.places.items in
    let is : get_or ps i p ≡ p = search rules in
    let more : c.push.new.self.items ≡ ns ++ c.place_of.result ∷ [] = c.in_ok-push.ensures.items in
    let front : take (i + 1) ps ≡ take i ps ++ p ∷ [] = ap (λ n. take n ps) (add-one i) ∙ take-suc ps i p c.loop-principal-test.true ∙ ap (λ x. take i ps ++ x ∷ []) is in
    subst (λ xs. ArePlaces others xs c.push.new.self.items) (sym front) (subst (ArePlaces others (take i ps ++ p ∷ [])) (sym more)
    (places_push others (take i ps) ns p c.place_of.result c.place_of.ensures c.loop-principal.invariant))
