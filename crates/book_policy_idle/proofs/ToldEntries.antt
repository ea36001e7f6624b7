-- What is told of some entries, and of one more.
use Rattle.std.proofs.Common.{◌≡◌, ◌<◌, ℕ, ◌+◌, ◌++◌, ◌∷◌, [], List, length, take, get_or, refl, sym, ap, ◌∙◌, subst, arith, add-zero}
use Rattle.std.proofs.lemmas.List.{append-nil, append_assoc, take_more, length-take-le}
use Rattle.book_policy_values.specs.declared.parts.PolicyEntry.{PolicyEntry}
use Rattle.book_policy_values.specs.declared.parts.PolicyTables.{PolicyTables}
use Rattle.book_policy_idle.specs.Told.{AddsTold, AreTold, IsToldFor, told_for}
use Rattle.book_policy_idle.specs.declared.idle.IdleEntry.{IdleEntry}

module _ (t : PolicyTables) where
  told-push : (i : ℕ) (es : List PolicyEntry) (e : PolicyEntry) (old new : List IdleEntry) → AreTold t i es old → AddsTold t (i + length es) e old new → AreTold t i (es ++ e ∷ []) new
  told-push i [] e old new are adds = (
    adds.reason,
    [],
    subst (λ (j : ℕ). IsToldFor t j e adds.reason) (add-zero i) adds.right,
    adds.told ∙ ap (λ (l : List IdleEntry). l ++ told_for (i + 0) e adds.reason) are
        ∙ ap (λ (j : ℕ). told_for j e adds.reason) (add-zero i) ∙ sym (append-nil (told_for i e adds.reason)),
    refl,
  )
  told-push i (y ∷ ys) e old new are adds =
      let same : i + length (y ∷ ys) ≡ (i + 1) + length ys = omega arith in
      let more : List IdleEntry = told_for (i + length (y ∷ ys)) e adds.reason in
      let later : AddsTold t ((i + 1) + length ys) e are.1 (are.1 ++ more) = record {
        reason = adds.reason;
        right = subst (λ (j : ℕ). IsToldFor t j e adds.reason) same adds.right;
        told = ap (λ (j : ℕ). are.1 ++ told_for j e adds.reason) same;
      } in (
        are.0,
        are.1 ++ more,
        are.2,
        adds.told ∙ ap (λ (l : List IdleEntry). l ++ more) are.3 ∙ append_assoc (told_for i y are.0) are.1 more,
        told-push (i + 1) ys e are.1 (are.1 ++ more) are.4 later,
      )

  -- one entry of the policy more
  pub told_more : (xs : List PolicyEntry) (i : ℕ) (x : PolicyEntry) (old new : List IdleEntry) → i < length xs → x ≡ get_or xs i x
      → AreTold t 0 (take i xs) old → AddsTold t i x old new → AreTold t 0 (take (i + 1) xs) new
  told_more xs i x old new below is are adds =
      let more : take (i + 1) xs ≡ take i xs ++ x ∷ [] = take_more xs i x below ∙ ap (λ y. take i xs ++ y ∷ []) (sym is) in
      let count : i ≡ 0 + length (take i xs) = omega (arith, length-take-le i xs (omega arith)) in
      subst (λ (es : List PolicyEntry). AreTold t 0 es new) (sym more)
      (told-push 0 (take i xs) x old new are (subst (λ (j : ℕ). AddsTold t j x old new) count adds))
