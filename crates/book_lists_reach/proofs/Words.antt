-- Words of bits, as lists.
use Rattle.std.proofs.Common.{◌≡◌, ◌≢◌, ℕ, zero, suc, ◌+◌, ◌*◌, ◌/◌, ◌%◌, ◌^◌, ◌<◌, ◌≤◌, ◌⊎◌, inl, inr, ◌||◌, Bool, true, false, List, [], ◌∷◌, ◌++◌, length, get_or, set, refl, sym, ap, subst, ◌∙◌, arith, nat_eq, max, bit_or}
use Rattle.std.specs.Int.{bit_at}
use Rattle.std.specs.Int.Width.{w64}
use Rattle.std.proofs.Math.ListN.{get_or-eq_default}
use Rattle.std.proofs.Math.Nat.{div-add-mod}
use Rattle.std.proofs.lemmas.Bool.{cases_lt}
use Rattle.std.proofs.lemmas.Bool.Decides.{eqb_tells}
use Rattle.std.proofs.lemmas.List.{get_or-set_same, get_or-set_other}
use Rattle.std.proofs.lemmas.Nat.Bits.{bit_at_or, bit_at-lt, bit_at-zero, bit_at_set_same, bit_at_set_other}
use Rattle.book_lists_reach.specs.Bits.{bit}

-- what is read past the end, at the end
pub default_more : {A : Type 0} (d : A) (xs : List A) (i : ℕ) → get_or (xs ++ d ∷ []) i d ≡ get_or xs i d
default_more d [] zero = refl
default_more d [] (suc i) = refl
default_more d (x ∷ xs) zero = refl
default_more d (x ∷ xs) (suc i) = default_more d xs i

-- ---- the numbers of two sets

-- the words below i have the bits of both lists, the others are as they were
pub record JoinedTo (i : ℕ) (old other new : List ℕ) : Type 0 where
  pub below : (k : ℕ) → k < i → get_or new k 0 ≡ bit_or (get_or old k 0) (get_or other k 0)
  pub above : (k : ℕ) → i ≤ k → get_or new k 0 ≡ get_or old k 0

pub joined_none : (old other new : List ℕ) → ((k : ℕ) → get_or new k 0 ≡ get_or old k 0) → JoinedTo 0 old other new
joined_none old other new same = record {
  below = λ k l. absurd (omega arith);
  above = λ k l. same k;
}

pub joined_more : (i : ℕ) (old other new : List ℕ) → i < length new → JoinedTo i old other new → JoinedTo (i + 1) old other (set new i (bit_or (get_or new i 0) (get_or other i 0)))
joined_more i old other new within j = record {
  below = λ k l. at k l (cases_lt k i);
  above = λ k l. get_or-set_other new i k (bit_or (get_or new i 0) (get_or other i 0)) 0 (omega arith) ∙ j.above k (omega arith);
}
  where
    at : (k : ℕ) → k < i + 1 → (k < i) ⊎ (i ≤ k) → get_or (set new i (bit_or (get_or new i 0) (get_or other i 0))) k 0 ≡ bit_or (get_or old k 0) (get_or other k 0)
    at k l (inl before) = get_or-set_other new i k (bit_or (get_or new i 0) (get_or other i 0)) 0 (omega arith) ∙ j.below k before
    at k l (inr now) =
        let is : i ≡ k = omega arith in
        subst (λ n. get_or (set new i (bit_or (get_or new i 0) (get_or other i 0))) n 0 ≡ bit_or (get_or old n 0) (get_or other n 0)) is
        (get_or-set_same new i (bit_or (get_or new i 0) (get_or other i 0)) 0 within ∙ ap (λ w. bit_or w (get_or other i 0)) (j.above i (omega arith)))

one_of : (a b : ℕ) → a < 2 → b < 2 → nat_eq (max a b) 1 ≡ (nat_eq a 1 || nat_eq b 1)
one_of zero zero la lb = refl
one_of zero (suc zero) la lb = refl
one_of (suc zero) zero la lb = refl
one_of (suc zero) (suc zero) la lb = refl
one_of (suc (suc a)) b la lb = absurd (omega arith)
one_of a (suc (suc b)) la lb = absurd (omega arith)

or_false : (b : Bool) → b ≡ (b || false)
or_false true = refl
or_false false = refl

pub bit_joined : (count : ℕ) (old other new : List ℕ) → length other ≤ count → JoinedTo count old other new → (j : ℕ) → bit new j ≡ (bit old j || bit other j)
bit_joined count old other new short joined j = at (cases_lt (j / 64) count)
  where
    k : ℕ
    k = j / 64

    at : (j / 64 < count) ⊎ (count ≤ j / 64) → bit new j ≡ (bit old j || bit other j)
    at (inl below) =
        ap (λ w. nat_eq (bit_at w (j % 64)) 1) (joined.below (j / 64) below)
        ∙ ap (λ b. nat_eq b 1) (bit_at_or (get_or old (j / 64) 0) (get_or other (j / 64) 0) (j % 64))
        ∙ one_of _ _ (bit_at-lt (get_or old (j / 64) 0) (j % 64)) (bit_at-lt (get_or other (j / 64) 0) (j % 64))
    at (inr above) =
        let none : get_or other (j / 64) 0 ≡ 0 = get_or-eq_default other 0 (omega arith) in
        let never : bit other j ≡ false = ap (λ w. nat_eq (bit_at w (j % 64)) 1) none ∙ ap (λ b. nat_eq b 1) (bit_at-zero (j % 64)) in
        ap (λ w. nat_eq (bit_at w (j % 64)) 1) (joined.above (j / 64) above) ∙ or_false (bit old j) ∙ ap (λ b. bit old j || b) (sym never)

-- ---- one number more

abbrev pub with_number : List ℕ → ℕ → List ℕ
with_number words n = set words (n / 64) (bit_or (get_or words (n / 64) 0) (1 * 2 ^ (n % 64) % 2 ^ 64))

pub bit_more : (words : List ℕ) (n : ℕ) → n / 64 < length words → (j : ℕ) → bit (with_number words n) j ≡ (nat_eq j n || bit words j)
bit_more words n within j = at (eqb_tells (j / 64) (n / 64)) (eqb_tells (j % 64) (n % 64)) (eqb_tells j n)
  where
    w : ℕ
    w = get_or words (n / 64) 0

    at : ((nat_eq (j / 64) (n / 64) ≡ true) × (j / 64 ≡ n / 64)) ⊎ ((nat_eq (j / 64) (n / 64) ≡ false) × (j / 64 ≢ n / 64))
        → ((nat_eq (j % 64) (n % 64) ≡ true) × (j % 64 ≡ n % 64)) ⊎ ((nat_eq (j % 64) (n % 64) ≡ false) × (j % 64 ≢ n % 64))
        → ((nat_eq j n ≡ true) × (j ≡ n)) ⊎ ((nat_eq j n ≡ false) × (j ≢ n))
        → bit (with_number words n) j ≡ (nat_eq j n || bit words j)
    at (inl word) (inl place) (inl same) =
        ap (λ x. bit (with_number words n) x) same.1
        ∙ ap (λ v. nat_eq (bit_at v (n % 64)) 1) (get_or-set_same words (n / 64) (bit_or (get_or words (n / 64) 0) (1 * 2 ^ (n % 64) % 2 ^ 64)) 0 within)
        ∙ ap (λ b. nat_eq b 1) (bit_at_set_same w64 (get_or words (n / 64) 0) (n % 64) (omega arith))
        ∙ ap (λ b. b || bit words j) (sym same.0)
    at (inl word) (inl place) (inr other) =
        absurd (other.1 (sym (div-add-mod j 64) ∙ ap (λ q. 64 * q + j % 64) word.1 ∙ ap (λ r. 64 * (n / 64) + r) place.1 ∙ div-add-mod n 64))
    at (inl word) (inr place) other =
        let apart : nat_eq j n ≡ false = elim other [ inl same ↦ absurd (place.1 (ap (λ x. x % 64) same.1)) | inr is ↦ is.0 ] in
        ap (λ k. nat_eq (bit_at (get_or (with_number words n) k 0) (j % 64)) 1) word.1
        ∙ ap (λ v. nat_eq (bit_at v (j % 64)) 1) (get_or-set_same words (n / 64) (bit_or (get_or words (n / 64) 0) (1 * 2 ^ (n % 64) % 2 ^ 64)) 0 within)
        ∙ ap (λ b. nat_eq b 1) (bit_at_set_other w64 (get_or words (n / 64) 0) (n % 64) (omega arith) (j % 64) place.1)
        ∙ ap (λ k. nat_eq (bit_at (get_or words k 0) (j % 64)) 1) (sym word.1)
        ∙ ap (λ b. b || bit words j) (sym apart)
    at (inr word) place other =
        let apart : nat_eq j n ≡ false = elim other [ inl same ↦ absurd (word.1 (ap (λ x. x / 64) same.1)) | inr is ↦ is.0 ] in
        ap (λ v. nat_eq (bit_at v (j % 64)) 1) (get_or-set_other words (n / 64) (j / 64) (bit_or (get_or words (n / 64) 0) (1 * 2 ^ (n % 64) % 2 ^ 64)) 0 word.1)
        ∙ ap (λ b. b || bit words j) (sym apart)
