-- Sets of leaves. A set is a function from leaves to truth values.
use Rattle.std.specs.Prelude.{◌≡◌, ℕ, zero, suc, Bool, true, false, ◌+◌, ◌<◌, ◌≤◌, ◌⊎◌, ◌&&◌, ◌||◌, not, cond, nat_eq, Option, None, Some, refl}
use Rattle.std.specs.Int.{bit_at}
use Rattle.std.specs.Bool.{Decides}
use Rattle.std.specs.Cmp.{booleans_Decides}
use Rattle.std.proofs.Common.{subst, sym, ap, arith, inl, inr}
use Rattle.std.proofs.lemmas.Bool.{false≢true, eqb-true}
use mathlib.Core.Bool.{beq}
use Rattle.std.specs.Coded.{Coded, code_by, coded×, coded_bool}
use Rattle.book_rights.specs.declared.privileges.Leaf.{Leaf}
use Rattle.book_rights.specs.declared.privileges.Leaf.TheVariants.{ReadTexts, WriteContent, WriteProperties, Bind, Unbind, ReadAcl, WriteAcl, ReadCurrentUserPrivilegeSet, ReadNames}

-- one of nine values, by the leaf
abbrev pub at_leaf : Bool → Bool → Bool → Bool → Bool → Bool → Bool → Bool → Bool → Leaf → Bool
at_leaf a b c d e f g h i ReadTexts = a
at_leaf a b c d e f g h i WriteContent = b
at_leaf a b c d e f g h i WriteProperties = c
at_leaf a b c d e f g h i Bind = d
at_leaf a b c d e f g h i Unbind = e
at_leaf a b c d e f g h i ReadAcl = f
at_leaf a b c d e f g h i WriteAcl = g
at_leaf a b c d e f g h i ReadCurrentUserPrivilegeSet = h
at_leaf a b c d e f g h i ReadNames = i

-- a fact of every leaf
pub each_leaf : (P : Leaf → Type 0) → P ReadTexts → P WriteContent → P WriteProperties → P Bind → P Unbind → P ReadAcl → P WriteAcl → P ReadCurrentUserPrivilegeSet → P ReadNames → (leaf : Leaf) → P leaf
each_leaf P a b c d e f g h i ReadTexts = a
each_leaf P a b c d e f g h i WriteContent = b
each_leaf P a b c d e f g h i WriteProperties = c
each_leaf P a b c d e f g h i Bind = d
each_leaf P a b c d e f g h i Unbind = e
each_leaf P a b c d e f g h i ReadAcl = f
each_leaf P a b c d e f g h i WriteAcl = g
each_leaf P a b c d e f g h i ReadCurrentUserPrivilegeSet = h
each_leaf P a b c d e f g h i ReadNames = i

-- two sets with the same leaves are equal
pub same_set : (f g : Leaf → Bool) → ((leaf : Leaf) → f leaf ≡ g leaf) → f ≡ g
same_set f g same = λ i leaf. same leaf i

-- two sets are equal where they agree at each of the nine
pub same_by_leaf : (f g : Leaf → Bool) → f ReadTexts ≡ g ReadTexts → f WriteContent ≡ g WriteContent → f WriteProperties ≡ g WriteProperties → f Bind ≡ g Bind → f Unbind ≡ g Unbind → f ReadAcl ≡ g ReadAcl → f WriteAcl ≡ g WriteAcl → f ReadCurrentUserPrivilegeSet ≡ g ReadCurrentUserPrivilegeSet → f ReadNames ≡ g ReadNames → f ≡ g
same_by_leaf f g a b c d e h i k l = same_set f g (each_leaf (λ leaf. f leaf ≡ g leaf) a b c d e h i k l)

abbrev pub Nine : Type 0
Nine = Bool × (Bool × (Bool × (Bool × (Bool × (Bool × (Bool × (Bool × Bool)))))))

abbrev pub nine_of : (Leaf → Bool) → Nine
nine_of f = (f ReadTexts, (f WriteContent, (f WriteProperties, (f Bind, (f Unbind, (f ReadAcl, (f WriteAcl, (f ReadCurrentUserPrivilegeSet, f ReadNames))))))))

abbrev pub set_by_leaf : Nine → Leaf → Bool
set_by_leaf t = at_leaf t.0 t.1.0 t.1.1.0 t.1.1.1.0 t.1.1.1.1.0 t.1.1.1.1.1.0 t.1.1.1.1.1.1.0 t.1.1.1.1.1.1.1.0 t.1.1.1.1.1.1.1.1

pub set_of-nine_of : (f : Leaf → Bool) → set_by_leaf (nine_of f) ≡ f
set_of-nine_of f = same_by_leaf _ _ refl refl refl refl refl refl refl refl refl

-- whether two sets have the same leaves
abbrev pub same_leaves : (Leaf → Bool) → (Leaf → Bool) → Bool
same_leaves f g =
    beq (f ReadTexts) (g ReadTexts) && beq (f WriteContent) (g WriteContent) && beq (f WriteProperties) (g WriteProperties) && beq (f Bind) (g Bind)
    && beq (f Unbind) (g Unbind) && beq (f ReadAcl) (g ReadAcl) && beq (f WriteAcl) (g WriteAcl)
    && beq (f ReadCurrentUserPrivilegeSet) (g ReadCurrentUserPrivilegeSet) && beq (f ReadNames) (g ReadNames)

both : (a b : Bool) → (a && b) ≡ true → (a ≡ true) × (b ≡ true)
both true b h = (refl, h)
both false b h = absurd (false≢true h)

same : (a b : Bool) → beq a b ≡ true → a ≡ b
same a b h = (booleans_Decides a b).0 h

itself : (a : Bool) → beq a a ≡ true
itself true = refl
itself false = refl

-- sets are equal exactly where they have the same leaves
pub same_leaves-decides : (f g : Leaf → Bool) → Decides (same_leaves f g) (f ≡ g)
same_leaves-decides f g = (
  λ h.
      let t = both _ _ h in
      let s = both _ _ t.0 in
      let r = both _ _ s.0 in
      let q = both _ _ r.0 in
      let p = both _ _ q.0 in
      let o = both _ _ p.0 in
      let n = both _ _ o.0 in
      let m = both _ _ n.0 in
      same_by_leaf f g (same _ _ m.0) (same _ _ m.1) (same _ _ n.1) (same _ _ o.1) (same _ _ p.1) (same _ _ q.1) (same _ _ r.1) (same _ _ s.1) (same _ _ t.1),
  λ e. let P : (Leaf → Bool) → Type 0 = λ x. same_leaves f x ≡ true in subst P e (reflexive f),
)
  where
    reflexive : (f : Leaf → Bool) → same_leaves f f ≡ true
    reflexive f =
        let P : Leaf → Type 0 = λ leaf. beq (f leaf) (f leaf) ≡ true in
        let each : (leaf : Leaf) → P leaf = λ leaf. itself (f leaf) in
        simp (each ReadTexts, each WriteContent, each WriteProperties, each Bind, each Unbind, each ReadAcl, each WriteAcl, each ReadCurrentUserPrivilegeSet, each ReadNames)

-- a set of leaves is stored as its nine truth values
abbrev pub coded_set : Coded (Leaf → Bool)
coded_set = code_by Nine (coded× coded_bool (coded× coded_bool (coded× coded_bool (coded× coded_bool (coded× coded_bool (coded× coded_bool (coded× coded_bool (coded× coded_bool coded_bool)))))))) nine_of set_by_leaf set_of-nine_of

-- the place of a leaf in the order of the leaves, from 0
abbrev pub place_of : Leaf → ℕ
place_of ReadTexts = 0
place_of WriteContent = 1
place_of WriteProperties = 2
place_of Bind = 3
place_of Unbind = 4
place_of ReadAcl = 5
place_of WriteAcl = 6
place_of ReadCurrentUserPrivilegeSet = 7
place_of ReadNames = 8

abbrev pub no_leaf : Leaf → Bool
no_leaf leaf = false

abbrev pub every_leaf : Leaf → Bool
every_leaf leaf = true

abbrev pub union : (Leaf → Bool) → (Leaf → Bool) → Leaf → Bool
union f g leaf = f leaf || g leaf

abbrev pub difference : (Leaf → Bool) → (Leaf → Bool) → Leaf → Bool
difference f g leaf = f leaf && not (g leaf)

-- exactly this leaf
abbrev pub only : Leaf → Leaf → Bool
only one leaf = nat_eq (place_of leaf) (place_of one)

abbrev pub with_leaf : (Leaf → Bool) → Leaf → Leaf → Bool
with_leaf f added leaf = f leaf || only added leaf

-- some leaf is in both sets
abbrev pub Meets : (Leaf → Bool) → (Leaf → Bool) → Type 0
Meets f g = (leaf : Leaf) × (f leaf ≡ true) × (g leaf ≡ true)

-- the first leaf of the set in the order of the leaves, and none of an empty set
abbrev pub IsLeast : (Leaf → Bool) → Option Leaf → Type 0
IsLeast f None = (leaf : Leaf) → f leaf ≡ false
IsLeast f (Some least) = (f least ≡ true) × ((leaf : Leaf) → f leaf ≡ true → place_of least ≤ place_of leaf)

-- ---- a set as a mask
-- whether the number has this bit
abbrev pub has_bit : ℕ → ℕ → Bool
has_bit n i = nat_eq (bit_at n i) 1

-- the leaves of a mask: bit 0 is `x-read-texts`, and each leaf has the bit of its place
abbrev pub leaves_in : ℕ → Leaf → Bool
leaves_in mask leaf = has_bit mask (place_of leaf)

-- the mask of a set
abbrev pub mask_of : (Leaf → Bool) → ℕ
mask_of f =
    cond (f ReadTexts) 1 0 + cond (f WriteContent) 2 0 + cond (f WriteProperties) 4 0 + cond (f Bind) 8 0 + cond (f Unbind) 16 0
    + cond (f ReadAcl) 32 0 + cond (f WriteAcl) 64 0 + cond (f ReadCurrentUserPrivilegeSet) 128 0 + cond (f ReadNames) 256 0

-- the test holds of each number below this one
abbrev pub all_below : (ℕ → Bool) → ℕ → Bool
all_below p zero = true
all_below p (suc n) = p n && all_below p n

pub all_below_tells : (p : ℕ → Bool) (n k : ℕ) → all_below p n ≡ true → k < n → p k ≡ true
all_below_tells p zero k each below = absurd (omega (arith, below))
all_below_tells p (suc n) k each below = elim (same_or_below k n below) [
  | inl lt ↦ all_below_tells p n k (both (p n) (all_below p n) each).1 lt
  | inr is ↦ subst (λ m. p m ≡ true) (sym is) (both (p n) (all_below p n) each).0
]
  where
    same_or_below : (j m : ℕ) → j < suc m → (j < m) ⊎ (j ≡ m)
    same_or_below zero zero lt = inr refl
    same_or_below zero (suc m) lt = inl (omega arith)
    same_or_below (suc j) zero lt = absurd (omega (arith, lt))
    same_or_below (suc j) (suc m) lt = elim (same_or_below j m (omega (arith, lt))) [ inl h ↦ inl (omega (arith, h)) | inr h ↦ inr (ap suc h) ]

-- a mask of nine bits is that of its leaves
pub mask_of-leaves_in : (mask : ℕ) → mask < 512 → mask_of (leaves_in mask) ≡ mask
mask_of-leaves_in mask below = eqb-true _ _ (all_below_tells (λ m. nat_eq (mask_of (leaves_in m)) m) 512 mask refl below)
