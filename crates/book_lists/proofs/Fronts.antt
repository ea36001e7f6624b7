-- The numbers that the first bytes of two names spell are in the order of the names.
use Rattle.book_lists.proofs.Common.{◌≡◌, ℕ, zero, suc, ◌+◌, ◌^◌, ◌<◌, ◌≤◌, List, [], ◌∷◌, length, get_or, sym, ap, ◌∙◌, subst, refl, arith, IsTrue, inl, inr, ◌⊎◌, nat_cmp, slice_cmp, cases_lt, nat_list_cmp_total}
use Rattle.std.proofs.Common.{◌≢◌, ◌*◌, Less, Greater, Equal, Ordering}
use Rattle.std.specs.Ordering.{ordering_reverse, ordering_then}
use Rattle.std.specs.Cmp.{nat_cmp_is}
use Rattle.std.proofs.Math.Nat.{eq-or-lt_of_le}
use Rattle.std.proofs.Math.ListN.{get_or-eq_default}
use Rattle.book_lists.specs.Names.{IsName, IsFronted, is_name_byte, front}

-- the number that the first k bytes spell, missing ones being 0
abbrev digits : ℕ → List ℕ → ℕ
digits zero bs = 0
digits (suc k) [] = 0
digits (suc k) (b ∷ bs) = b * 256 ^ k + digits k bs

front_digits : (bs : List ℕ) → front bs ≡ digits 8 bs
front_digits [] = omega arith
front_digits (a ∷ []) = omega arith
front_digits (a ∷ b ∷ []) = omega arith
front_digits (a ∷ b ∷ c ∷ []) = omega arith
front_digits (a ∷ b ∷ c ∷ d ∷ []) = omega arith
front_digits (a ∷ b ∷ c ∷ d ∷ e ∷ []) = omega arith
front_digits (a ∷ b ∷ c ∷ d ∷ e ∷ f ∷ []) = omega arith
front_digits (a ∷ b ∷ c ∷ d ∷ e ∷ f ∷ g ∷ []) = omega arith
front_digits (a ∷ b ∷ c ∷ d ∷ e ∷ f ∷ g ∷ h ∷ bs) = omega arith

abbrev AreBytes : List ℕ → Type 0
AreBytes bs = (i : ℕ) → get_or bs i 0 < 256

-- a greater digit in front outweighs all that follows
outweighs : (a b p x : ℕ) → x < p → a < b → a * p + x < b * p
outweighs a zero p x small l = omega arith
outweighs zero (suc b) p x small l = grind arith
outweighs (suc a) (suc b) p x small l = let h = outweighs a b p x small (omega arith) in grind arith

positive : (k : ℕ) → 0 < 256 ^ k
positive zero = omega arith
positive (suc k) = let h = positive k in grind arith

below : (k : ℕ) (bs : List ℕ) → AreBytes bs → digits k bs < 256 ^ k
below zero bs are = omega arith
below (suc k) [] are = positive (suc k)
below (suc k) (b ∷ bs) are =
    let first : b < 256 = are 0 in
    let rest : digits k bs < 256 ^ k = below k bs (λ i. are (suc i)) in
    let h = outweighs b 256 (256 ^ k) (digits k bs) rest first in
    grind arith

-- the first bytes decide, or are equal
first_decides : (x y p f g : ℕ) (rest : Ordering) → f < p → g < p → x * p + f < y * p + g
    → (f < g → Less ≡ rest) → (x < y) ⊎ (y ≤ x) → Less ≡ ordering_then (nat_cmp x y) rest
first_decides x y p f g rest small short l then (inl lesser) = ap (λ r. ordering_then r rest) (nat_cmp_is x y Less lesser)
first_decides x y p f g rest small short l then (inr least) = by_equal (eq-or-lt_of_le least)
  where
    by_equal : (y ≡ x) ⊎ (y < x) → Less ≡ ordering_then (nat_cmp x y) rest
    by_equal (inl e) =
        then (omega (arith, subst (λ z. z * p + f < y * p + g) (sym e) l))
        ∙ ap (λ r. ordering_then r rest) (nat_cmp_is x y Equal (sym e))
    by_equal (inr greater) = absurd (omega (arith, outweighs y x p g short greater))

less : (k : ℕ) (xs ys : List ℕ) → AreBytes xs → AreBytes ys → digits k xs < digits k ys → Less ≡ slice_cmp nat_cmp xs ys
less zero xs ys are bes l = absurd (omega arith)
less (suc k) [] [] are bes l = absurd (omega arith)
less (suc k) [] (y ∷ ys) are bes l = refl
less (suc k) (x ∷ xs) [] are bes l = absurd (omega arith)
less (suc k) (x ∷ xs) (y ∷ ys) are bes l =
    first_decides x y (256 ^ k) (digits k xs) (digits k ys) (slice_cmp nat_cmp xs ys)
    (below k xs (λ i. are (suc i))) (below k ys (λ i. bes (suc i))) l
    (less k xs ys (λ i. are (suc i)) (λ i. bes (suc i))) (cases_lt x y)

byte_of : (b : ℕ) → IsTrue (is_name_byte b) → b < 256
byte_of b is = grind arith

bytes_of : (name : List ℕ) → IsName name → AreBytes name
bytes_of name is i = at (cases_lt i (length name))
  where
    at : (i < length name) ⊎ (length name ≤ i) → get_or name i 0 < 256
    at (inl within) = byte_of (get_or name i 0) (is.each i 0 within)
    at (inr past) = subst (λ b. b < 256) (sym (get_or-eq_default name 0 past)) (omega arith)

lesser : (xs ys : List ℕ) → IsName xs → IsName ys → front xs < front ys → Less ≡ slice_cmp nat_cmp xs ys
lesser xs ys is are l =
    less 8 xs ys (bytes_of xs is) (bytes_of ys are) (omega (arith, l, front_digits xs, front_digits ys))

-- fronts that differ are in the order of the names
pub fronts_decide : (xs ys : List ℕ) (f g : ℕ) → IsFronted xs f → IsFronted ys g → (f ≢ g) → nat_cmp f g ≡ slice_cmp nat_cmp xs ys
fronts_decide xs ys f g is are apart = by_order (cases_lt f g)
  where
    by_order : (f < g) ⊎ (g ≤ f) → nat_cmp f g ≡ slice_cmp nat_cmp xs ys
    by_order (inl l) = sym (nat_cmp_is f g Less l) ∙ lesser xs ys is.is_name are.is_name (omega (arith, l, is.fronted, are.fronted))
    by_order (inr ge) =
        let l : g < f = omega (arith, apart, ge) in
        sym (nat_cmp_is f g Greater l)
        ∙ ap ordering_reverse (lesser ys xs are.is_name is.is_name (omega (arith, l, is.fronted, are.fronted)))
        ∙ sym (nat_list_cmp_total.antisymm xs ys)
