-- Which pairs stand for the members of one group, where pairs of some groups are replaced.
use Rattle.book_office.proofs.Common.{◌≡◌, inl, inr, ℕ, List, Bool, true, false, not, ◌&&◌, ◌||◌, refl, sym, ap, ◌∙◌, false≢true, contains-retain, bytes_eq, memberships_exact, Memberships, members_of, Membership}
use Rattle.std.proofs.Common.{◌⊎◌}
use Rattle.std.specs.FinSet as set

-- truths about one pair: whether it was there, whether its group is replaced, whether it is among the new ones, whether it is of the group
pub one_of : (a g m : Bool) → ((a && g) || m) ≡ true → (a ≡ true) ⊎ (m ≡ true)
one_of true g true e = inr refl
one_of true g false e = inl refl
one_of false g m e = inr e

pub only_new : (a g m e : Bool) → (e ≡ true → g ≡ true) → ((((a && not g) || m) && e) ≡ (m && e))
only_new a true m true h = ap (λ b. (b || m) && true) (dropped a)
  where
    dropped : (b : Bool) → (b && false) ≡ false
    dropped true = refl
    dropped false = refl
only_new a false m true h = absurd (false≢true (h refl))
only_new a g m false h = nothing ((a && not g) || m) ∙ sym (nothing m)
  where
    nothing : (b : Bool) → (b && false) ≡ false
    nothing true = refl
    nothing false = refl

pub only_old : (a g m e : Bool) → (e ≡ true → g ≡ false) → (m ≡ true → g ≡ true) → ((((a && not g) || m) && e) ≡ (a && e))
only_old true false m true h k = refl
only_old false false true true h k = absurd (false≢true (k refl))
only_old false false false true h k = refl
only_old a true m true h k = absurd (false≢true (sym (h refl)))
only_old a g m false h k = nothing ((a && not g) || m) ∙ sym (nothing a)
  where
    nothing : (b : Bool) → (b && false) ≡ false
    nothing true = refl
    nothing false = refl

-- the members of one group among the pairs
pub among : (group : List ℕ) (pairs : Memberships) (q : Membership) → set.contains (members_of pairs group) q ≡ (set.contains pairs q && bytes_eq q.group group)
among group pairs q = contains-retain pairs (λ (m : Membership). bytes_eq m.group group) q (λ x e. ap (λ (m : Membership). bytes_eq m.group group) (sym (memberships_exact q x e)))
