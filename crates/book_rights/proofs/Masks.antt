-- Masks of nine bits, and the sets of leaves that they stand for.
use Rattle.std.proofs.Common.{◌≡◌, ℕ, zero, suc, ◌-◌, ◌*◌, ◌^◌, ◌<◌, ◌≤◌, min, max, Bool, true, false, not, ◌&&◌, ◌||◌, nat_eq, [], ◌∷◌, slice_index_or, bit_and, bit_or, IsTrue, Some, ◌↔◌, inl, inr, refl, sym, ap, ◌∙◌, arith}
use Rattle.std.specs.Int.{bit_at, w16, trailing_zeros}
use Rattle.std.proofs.lemmas.Bool.{eqb-true, eq-eqb, both_ways, and_parts, and_from, not-true}
use Rattle.std.proofs.lemmas.Bool.Decides.{eqb_tells}
use Rattle.std.proofs.lemmas.Nat.{and_le_l, or_lt}
use Rattle.std.proofs.lemmas.Nat.Bits.{bit_at-lt, bit_at_or, bit_at_and, bit_at_not, bit_at-zero, bit_at-pow_same, bit_at-pow_other, bit_at-trailing_zeros, and_pow, bit_at_above}
use Rattle.book_rights.specs.declared.privileges.Leaf.{Leaf}
use Rattle.book_rights.specs.declared.privileges.Leaf.TheVariants.{ReadTexts, WriteContent, WriteProperties, Bind, Unbind, ReadAcl, WriteAcl, ReadCurrentUserPrivilegeSet, ReadNames}
use Rattle.book_rights.specs.Leaves.{place_of, each_leaf, same_set, has_bit, leaves_in, mask_of, mask_of-leaves_in, all_below_tells, union, difference, with_leaf, Meets, IsLeast, same_leaves, same_leaves-decides}

-- ---- one bit
of_max : (x y : ℕ) → x < 2 → y < 2 → nat_eq (max x y) 1 ≡ (nat_eq x 1 || nat_eq y 1)
of_max zero zero a b = refl
of_max zero (suc zero) a b = refl
of_max (suc zero) zero a b = refl
of_max (suc zero) (suc zero) a b = refl
of_max (suc (suc x)) y a b = absurd (omega (arith, a))
of_max x (suc (suc y)) a b = absurd (omega (arith, b))

of_min : (x y : ℕ) → x < 2 → y < 2 → nat_eq (min x y) 1 ≡ (nat_eq x 1 && nat_eq y 1)
of_min zero zero a b = refl
of_min zero (suc zero) a b = refl
of_min (suc zero) zero a b = refl
of_min (suc zero) (suc zero) a b = refl
of_min (suc (suc x)) y a b = absurd (omega (arith, a))
of_min x (suc (suc y)) a b = absurd (omega (arith, b))

of_less : (y : ℕ) → y < 2 → nat_eq (1 - y) 1 ≡ not (nat_eq y 1)
of_less zero b = refl
of_less (suc zero) b = refl
of_less (suc (suc y)) b = absurd (omega (arith, b))

has_or : (a b i : ℕ) → has_bit (bit_or a b) i ≡ (has_bit a i || has_bit b i)
has_or a b i = ap (λ n. nat_eq n 1) (bit_at_or a b i) ∙ of_max _ _ (bit_at-lt a i) (bit_at-lt b i)

has_and : (a b i : ℕ) → has_bit (bit_and a b) i ≡ (has_bit a i && has_bit b i)
has_and a b i = ap (λ n. nat_eq n 1) (bit_at_and a b i) ∙ of_min _ _ (bit_at-lt a i) (bit_at-lt b i)

has_not : (b i : ℕ) → b < 512 → i < 9 → has_bit (65535 - b) i ≡ not (has_bit b i)
has_not b i below within = ap (λ n. nat_eq n 1) (bit_at_not w16 b i (omega (arith, below)) (omega (arith, within))) ∙ of_less _ (bit_at-lt b i)

has_pow : (k i : ℕ) → has_bit (2 ^ k) i ≡ nat_eq i k
has_pow k i = elim (eqb_tells i k) [
  | inl e ↦ ap (λ j. has_bit (2 ^ k) j) e.1 ∙ ap (λ n. nat_eq n 1) (bit_at-pow_same k) ∙ sym e.0
  | inr e ↦ ap (λ n. nat_eq n 1) (bit_at-pow_other k i e.1) ∙ sym e.0
]

-- ---- sets
place_below : (leaf : Leaf) → place_of leaf < 9
place_below leaf = each_leaf (λ l. place_of l < 9) (omega arith) (omega arith) (omega arith) (omega arith) (omega arith) (omega arith) (omega arith) (omega arith) (omega arith) leaf

pub union_of : (a b : ℕ) → leaves_in (bit_or a b) ≡ union (leaves_in a) (leaves_in b)
union_of a b = same_set _ _ (λ leaf. has_or a b (place_of leaf))

pub difference_of : (a b : ℕ) → b < 512 → leaves_in (bit_and a (65535 - b)) ≡ difference (leaves_in a) (leaves_in b)
difference_of a b below = same_set _ _ (λ leaf. has_and a (65535 - b) (place_of leaf) ∙ ap (λ x. has_bit a (place_of leaf) && x) (has_not b (place_of leaf) below (place_below leaf)))

pub with_of : (a : ℕ) (added : Leaf) → leaves_in (bit_or a (2 ^ place_of added)) ≡ with_leaf (leaves_in a) added
with_of a added = same_set _ _ (λ leaf. has_or a (2 ^ place_of added) (place_of leaf) ∙ ap (λ x. has_bit a (place_of leaf) || x) (has_pow (place_of added) (place_of leaf)))

pub or_below : (a b : ℕ) → a < 512 → b < 512 → bit_or a b < 512
or_below a b x y = or_lt 9 a b x y

pub and_below : (a b : ℕ) → a < 512 → bit_and a b < 512
and_below a b x = let le = and_le_l a b in omega (arith, le, x)

pub pow_below : (leaf : Leaf) → 2 ^ place_of leaf < 512
pow_below leaf = each_leaf (λ l. 2 ^ place_of l < 512) (omega arith) (omega arith) (omega arith) (omega arith) (omega arith) (omega arith) (omega arith) (omega arith) (omega arith) leaf

-- the test of one bit
pub has_of : (a : ℕ) (leaf : Leaf) → not (nat_eq (bit_and a (2 ^ place_of leaf)) 0) ≡ leaves_in a leaf
has_of a leaf =
    ap (λ n. not (nat_eq n 0)) (and_pow a (place_of leaf))
    ∙ each_leaf (λ l. (x : ℕ) → x < 2 → not (nat_eq (x * 2 ^ place_of l) 0) ≡ nat_eq x 1) (one 1 refl refl) (one 2 refl refl) (one 4 refl refl) (one 8 refl refl)
    (one 16 refl refl) (one 32 refl refl) (one 64 refl refl) (one 128 refl refl) (one 256 refl refl) leaf _ (bit_at-lt a (place_of leaf))
  where
    one : (m : ℕ) → not (nat_eq (0 * m) 0) ≡ false → not (nat_eq (1 * m) 0) ≡ true → (x : ℕ) → x < 2 → not (nat_eq (x * m) 0) ≡ nat_eq x 1
    one m none some zero b = none
    one m none some (suc zero) b = some
    one m none some (suc (suc x)) b = absurd (omega (arith, b))

-- ---- sets that meet, and the first leaf
-- the leaf at a place
abbrev pub leaf_at : ℕ → Leaf
leaf_at i = slice_index_or (ReadTexts ∷ WriteContent ∷ WriteProperties ∷ Bind ∷ Unbind ∷ ReadAcl ∷ WriteAcl ∷ ReadCurrentUserPrivilegeSet ∷ ReadNames ∷ []) i ReadTexts

place_of-leaf_at : (i : ℕ) → i < 9 → place_of (leaf_at i) ≡ i
place_of-leaf_at i below = eqb-true _ _ (all_below_tells (λ j. nat_eq (place_of (leaf_at j)) j) 9 i refl below)

-- the lowest bit of a mask is that of a leaf
pub lowest_below : (mask : ℕ) → mask < 512 → (mask ≡ 0 → ⊥) → trailing_zeros w16 mask < 9
lowest_below mask below some =
    let first = bit_at-trailing_zeros w16 mask (omega (arith, some)) (omega (arith, below)) in
    let not_above : 9 ≤ trailing_zeros w16 mask → ⊥ = λ above. let none = bit_at_above mask 9 (trailing_zeros w16 mask) below above in let one = first.1 in omega (arith, none, one) in
    omega (arith, not_above)

-- the leaf of the lowest bit is the first
pub least_of : (mask : ℕ) → mask < 512 → (mask ≡ 0 → ⊥) → IsLeast (leaves_in mask) (Some (leaf_at (trailing_zeros w16 mask)))
least_of mask below some =
    let first = bit_at-trailing_zeros w16 mask (omega (arith, some)) (omega (arith, below)) in
    let at = place_of-leaf_at (trailing_zeros w16 mask) (lowest_below mask below some) in (
      ap (λ i. nat_eq (bit_at mask i) 1) at ∙ eq-eqb _ _ first.1,
      λ leaf has.
          let bit : bit_at mask (place_of leaf) ≡ 1 = eqb-true _ _ has in
          let not_before : place_of leaf < trailing_zeros w16 mask → ⊥ = λ before. let zero_there = first.2 (place_of leaf) before in omega (arith, bit, zero_there) in
          omega (arith, at, not_before),
    )

pub meets_of : (a b : ℕ) → a < 512 → IsTrue (not (nat_eq (bit_and a b) 0)) ↔ Meets (leaves_in a) (leaves_in b)
meets_of a b below = (
  λ some.
      let least = least_of (bit_and a b) (and_below a b below) (λ e. both_ways _ (not-true _ some) (eq-eqb _ _ e)) in
      let leaf = leaf_at (trailing_zeros w16 (bit_and a b)) in
      let both = and_parts _ _ (sym (has_and a b (place_of leaf)) ∙ least.0) in
      (leaf, both.0, both.1),
  λ m. elim (nat_eq (bit_and a b) 0) as (λ x. nat_eq (bit_and a b) 0 ≡ x → not x ≡ true) [
    | true ↦ λ e.
        let none : has_bit (bit_and a b) (place_of m.0) ≡ false = ap (λ n. has_bit n (place_of m.0)) (eqb-true _ _ e) ∙ ap (λ n. nat_eq n 1) (bit_at-zero (place_of m.0)) in
        absurd (both_ways _ none (has_and a b (place_of m.0) ∙ and_from _ _ m.1 m.2))
    | false ↦ λ e. refl
  ] refl,
)

-- ---- equal sets
pub same_test : (a b : Bool) (P : Type 0) → (a ≡ true) ↔ P → (b ≡ true) ↔ P → a ≡ b
same_test true true P f g = refl
same_test true false P f g = sym (g.1 (f.0 refl))
same_test false true P f g = f.1 (g.0 refl)
same_test false false P f g = refl

pub same_of : (a b : ℕ) → a < 512 → b < 512 → (nat_eq a b ≡ true) ↔ (leaves_in a ≡ leaves_in b)
same_of a b x y = (
  λ e. ap leaves_in (eqb-true _ _ e),
  λ e. eq-eqb _ _ (sym (mask_of-leaves_in a x) ∙ ap mask_of e ∙ mask_of-leaves_in b y),
)

pub computed_of : (a b : ℕ) → a < 512 → b < 512 → nat_eq a b ≡ same_leaves (leaves_in a) (leaves_in b)
computed_of a b x y = same_test _ _ (leaves_in a ≡ leaves_in b) (same_of a b x y) (same_leaves-decides (leaves_in a) (leaves_in b))
