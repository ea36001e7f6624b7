-- What a scan has passed over.
use Rattle.book_lists.proofs.Common.{◌≡◌, ℕ, ◌+◌, ◌<◌, Bool, false, List, Some, slice_get, subst}
use Rattle.std.proofs.Common.{below_more}

-- one more element of which the fact holds
pub each_passed : {X : Type 0} (xs : List X) (P : X → Type 0) (i : ℕ) (x : X)
    → ((k : ℕ) (y : X) → k < i → slice_get xs k ≡ Some y → P y)
    → slice_get xs i ≡ Some x → P x
    → (k : ℕ) (y : X) → k < i + 1 → slice_get xs k ≡ Some y → P y
each_passed {X} xs P i x before at holds k y lt here =
    below_more (λ j. (z : X) → slice_get xs j ≡ Some z → P z) i (λ j below z there. before j z below there)
    (λ z there. let same : x ≡ z = cc in subst P same holds) k lt y here

-- one more element that fails the test
pub passed_more : {X : Type 0} (xs : List X) (p : X → Bool) (i : ℕ) (x : X)
    → ((k : ℕ) (y : X) → k < i → slice_get xs k ≡ Some y → p y ≡ false)
    → slice_get xs i ≡ Some x → p x ≡ false
    → (k : ℕ) (y : X) → k < i + 1 → slice_get xs k ≡ Some y → p y ≡ false
passed_more xs p = each_passed xs (λ x. p x ≡ false)
