use Rattle.std.proofs.Common.{◌≡◌, ◌+◌, ◌++◌, ◌∷◌, [], take, sym, ap, ◌∙◌, subst}
use Rattle.std.proofs.lemmas.List.{take_more}
use Rattle.book_policy_idle.specs.Marks.{AreUnmarked}
use Rattle.book_policy_idle.proofs.Deciders.{unmarked-push}
use Rattle.book_policy_idle.proofs.marks.has_marked.Goals as goal

pub loop-placed-preserved : goal.loop-placed-preserved
loop-placed-preserved c =
    let xs = c.args.list.now in
    let i = c.loop-placed.placed-index in
    let x = c.placed-item.result in
    let more : take (i + 1) xs ≡ take i xs ++ x ∷ [] = take_more xs i x c.loop-placed-test.true ∙ ap (λ y. take i xs ++ y ∷ []) (sym c.placed-item.is) in
    subst (AreUnmarked c.args.marks.now) (sym more)
    (unmarked-push c.args.marks.now (take i xs) x c.loop-placed.invariant (sym c.is_marked.ensures ∙ c.if-is_marked.false))
