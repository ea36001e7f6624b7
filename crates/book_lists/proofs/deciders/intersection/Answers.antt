use Rattle.book_lists.proofs.Common.{◌≡◌, ◌∙◌, ap, refl, Bool, true, false, not, ◌&&◌, Leaf, difference}
use Rattle.book_lists.proofs.deciders.intersection.Goals as goal

both : (a b : Bool) → (a && not (a && not b)) ≡ (a && b)
both false b = refl
both true false = refl
both true true = refl

pub returns : goal.returns
returns c leaf =
    ap (λ (f : Leaf → Bool). f leaf) c.minus-2.ensures
    ∙ ap (λ (f : Leaf → Bool). difference c.args.set f leaf) c.minus.ensures
    ∙ both (c.args.set leaf) (c.args.other leaf)
