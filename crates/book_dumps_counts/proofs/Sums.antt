-- Counts that stay at their last value.
use Rattle.std.proofs.Common.{◌≡◌, ◌∙◌, ◌+◌, ◌-◌, ◌^◌, ◌<◌, ℕ, List, take, length, get_or, ap, arith, min, sym, ◌≤◌, Bool, true, false, count_by}
use Rattle.std.specs.List.{sum_by}
use Rattle.std.proofs.lemmas.List.{length-take}
use Rattle.std.proofs.lemmas.List.Sums.{count_by-le-length, count_by_more_no, count_by_more_yes, sum_by_more}
use Rattle.book_dumps.specs.Dumps.{counted}

-- what is added to the last value is not counted
pub counted_more : (a b : ℕ) → min (counted a + b) (2 ^ 64 - 1) ≡ counted (a + b)
counted_more a b = omega arith

-- one element more
pub counted_next : {X : Type 0} (f : X → ℕ) (xs : List X) (i : ℕ) (x d : X) → i < length xs → x ≡ get_or xs i d → min (counted (sum_by f (take i xs)) + f x) (2 ^ 64 - 1) ≡ counted (sum_by f (take (i + 1) xs))
counted_next f xs i x d within is =
    counted_more (sum_by f (take i xs)) (f x) ∙ ap (λ n. counted (sum_by f (take i xs) + n)) (ap f is) ∙ ap counted (sym (sum_by_more f xs i d within))

-- of the first elements no more pass than there are
pub counted_in : {X : Type 0} (p : X → Bool) (xs : List X) (i : ℕ) → count_by p (take i xs) ≤ i
counted_in p xs i = omega (arith, count_by-le-length p (take i xs), length-take i xs)

pub counted_yes : {X : Type 0} (p : X → Bool) (xs : List X) (i : ℕ) (x : X) → i < length xs → x ≡ get_or xs i x → p x ≡ true → count_by p (take (i + 1) xs) ≡ count_by p (take i xs) + 1
counted_yes p xs i x within is passes = count_by_more_yes p xs i x within (sym (ap p is) ∙ passes)

pub counted_no : {X : Type 0} (p : X → Bool) (xs : List X) (i : ℕ) (x : X) → i < length xs → x ≡ get_or xs i x → p x ≡ false → count_by p (take (i + 1) xs) ≡ count_by p (take i xs)
counted_no p xs i x within is fails = count_by_more_no p xs i x within (sym (ap p is) ∙ fails)
