-- Lists of placed entries, one entry or one path more.
use Rattle.std.proofs.Common.{◌≡◌, ◌<◌, ℕ, ◌+◌, ◌++◌, ◌∷◌, [], List, Bool, true, false, cond, length, take, get_or, sym, ap, ◌∙◌, arith, add-zero}
use Rattle.std.proofs.lemmas.List.{take_more, length-take-le}
use Rattle.book_policy_values.specs.Policies.{stands_at}
use Rattle.book_policy_values.specs.declared.parts.PolicyEntry.{PolicyEntry}
use Rattle.book_policy_idle.specs.Idle.{placed_at}
use Rattle.book_policy_idle.specs.declared.in_force.Placed.{Placed}

by_cond : (b : Bool) (z : Placed) (r s t : List Placed) → r ≡ s ++ t → cond b (z ∷ r) r ≡ cond b (z ∷ s) s ++ t
by_cond true z r s t e = ap (λ l. z ∷ l) e
by_cond false z r s t e = e

pub placed_at-push : (p : Bool) (at : List ℕ) (i : ℕ) (xs : List PolicyEntry) (x : PolicyEntry)
    → placed_at p at i (xs ++ x ∷ []) ≡ placed_at p at i xs ++ placed_at p at (i + length xs) (x ∷ [])
placed_at-push p at i [] x = ap (λ j. placed_at p at j (x ∷ [])) (sym (add-zero i))
placed_at-push p at i (y ∷ ys) x =
    let same : (i + 1) + length ys ≡ i + length (y ∷ ys) = omega arith in
    by_cond (stands_at p at y) (record { index = i; entry = y.entry }) (placed_at p at (i + 1) (ys ++ x ∷ [])) (placed_at p at (i + 1) ys) (placed_at p at (i + length (y ∷ ys)) (x ∷ []))
    (placed_at-push p at (i + 1) ys x ∙ ap (λ j. placed_at p at (i + 1) ys ++ placed_at p at j (x ∷ [])) same)

-- one entry of the policy more
pub placed_more : (p : Bool) (at : List ℕ) (xs : List PolicyEntry) (i : ℕ) (x : PolicyEntry) → i < length xs → x ≡ get_or xs i x
    → placed_at p at 0 (take (i + 1) xs) ≡ placed_at p at 0 (take i xs) ++ placed_at p at i (x ∷ [])
placed_more p at xs i x below is =
    let more : take (i + 1) xs ≡ take i xs ++ x ∷ [] = take_more xs i x below ∙ ap (λ y. take i xs ++ y ∷ []) (sym is) in
    let count : 0 + length (take i xs) ≡ i = omega (arith, length-take-le i xs (omega arith)) in
    ap (placed_at p at 0) more ∙ placed_at-push p at 0 (take i xs) x ∙ ap (λ j. placed_at p at 0 (take i xs) ++ placed_at p at j (x ∷ [])) count
