-- The first row that does not keep something.
use Rattle.book_tables_findings.proofs.Common.{◌≡◌, ◌<◌, ◌++◌, ◌∷◌, ℕ, zero, suc, List, [], take, length, get_or, inl, ap, arith, refl, subst, sym, AllByRecursion, Row, all_has, has_right, Has}
use Rattle.book_tables_findings.specs.Findings.{IsFirst}

-- a list at one of its elements
split_at : (xs : List Row) (at : ℕ) (x : Row) → at < length xs → x ≡ get_or xs at x → (back : List Row) × (xs ≡ take at xs ++ x ∷ back)
split_at [] at x within is = absurd (omega arith)
split_at (y ∷ ys) zero x within is = (ys, ap (λ z. z ∷ ys) (sym is))
split_at (y ∷ ys) (suc at) x within is = let rest = split_at ys at x (omega arith) is in (rest.0, ap (λ l. y ∷ l) rest.1)

module _ (name_of : Row → List ℕ) (Keeps Breaks : Row → Type 0) (rows : List Row) (name : List ℕ) where
  -- where those before it keep it
  pub first_at : (at : ℕ) (row : Row) → at < length rows → row ≡ get_or rows at row → AllByRecursion Keeps (take at rows) → name ≡ name_of row → Breaks row → IsFirst name_of Keeps Breaks rows name
  first_at at row within is kept named broken =
      let split = split_at rows at row within is in
      record { front = take at rows; row = row; back = split.0; are = split.1; kept = kept; named = named; broken = broken }

  -- then they do not all keep it
  pub not_all : ((row : Row) → Breaks row → Keeps row → ⊥) → IsFirst name_of Keeps Breaks rows name → AllByRecursion Keeps rows → ⊥
  not_all apart f all =
      let there : Has rows f.row = subst (λ l. Has l f.row) (sym f.are) (has_right f.front (f.row ∷ f.back) f.row (inl refl)) in
      apart f.row f.broken (all_has Keeps rows f.row all there)
