-- Counts that stay at their last value.
use Rattle.std.proofs.Common.{◌≡◌, ◌∙◌, ◌+◌, ◌-◌, ◌^◌, ◌<◌, ℕ, List, take, length, get_or, ap, arith, min, sym}
use Rattle.std.specs.List.{sum_by}
use Rattle.std.proofs.lemmas.List.Sums.{sum_by_more}
use Rattle.book_desk_administering.specs.Counting.{counted}

counted_more : (a b : ℕ) → min (counted a + b) (2 ^ 64 - 1) ≡ counted (a + b)
counted_more a b = omega arith

-- one element more
pub counted_next : {X : Type 0} (f : X → ℕ) (xs : List X) (i : ℕ) (x d : X) → i < length xs → x ≡ get_or xs i d → min (counted (sum_by f (take i xs)) + f x) (2 ^ 64 - 1) ≡ counted (sum_by f (take (i + 1) xs))
counted_next f xs i x d within is =
    counted_more (sum_by f (take i xs)) (f x) ∙ ap (λ n. counted (sum_by f (take i xs) + n)) (ap f is) ∙ ap counted (sym (sum_by_more f xs i d within))
