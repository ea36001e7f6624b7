-- Entries that apply nowhere decide nothing.
use Rattle.book_office_listings.proofs.Common.{◌≡◌, ℕ, zero, suc, ◌+◌, ◌<◌, Bool, true, false, List, [], ◌∷◌, ◌++◌, length, get_or, take, slice_get, Some, refl, sym, ap, ◌∙◌, subst, append-nil, append_assoc, arith, take_more, Leaf, CircleOf, bears, Grants, IsAllowed, Entry, Here, AppliesAs}
use Rattle.std.proofs.Common.{cond, ◌&&◌, find}
use Rattle.book_lists.specs.Deciding.{DecidesBy}
use Rattle.book_lists.specs.Entries.{applies}
use Rattle.book_office_sync.specs.Sifting.{applied}
use Rattle.book_office_sync.proofs.AppliedEntries.{applied_both}

-- ---- what decides a leaf is the first that bears on it
module _ {X : Type 0} (bears : Leaf → X → Bool) (leaf : Leaf) where
  deciding_found : (xs : List X) (i : ℕ) (x : X) → DecidesBy bears xs i leaf x → find (bears leaf) xs ≡ Some x
  deciding_found [] i x d = let there = d.there in absurd (cc there)
  deciding_found (y ∷ ys) zero x d =
      let there = d.there in
      let bearing = d.bearing in
      let borne : bears leaf y ≡ true = cc (there, bearing) in
      ap (λ b. cond b (Some y) (find (bears leaf) ys)) borne ∙ there
  deciding_found (y ∷ ys) (suc i) x d =
      ap (λ b. cond b (Some y) (find (bears leaf) ys)) (d.first zero y (omega arith) refl)
      ∙ deciding_found ys i x (record { there = d.there; bearing = d.bearing; first = λ k e lt at. d.first (suc k) e (omega (arith, lt)) at })

  found_deciding : (xs : List X) (x : X) → find (bears leaf) xs ≡ Some x → (i : ℕ) × DecidesBy bears xs i leaf x
  found_deciding [] x e = absurd (cc e)
  found_deciding (y ∷ ys) x e =
      elim (bears leaf y) as (λ b. bears leaf y ≡ b → cond b (Some y) (find (bears leaf) ys) ≡ Some x → (i : ℕ) × DecidesBy bears (y ∷ ys) i leaf x) [
        | true ↦ λ borne at. (zero, record { there = at; bearing = cc (borne, at); first = λ k earlier lt there. absurd (omega (arith, lt)) })
        | false ↦ λ passed at. later passed (found_deciding ys x at)
      ] refl e
    where
      later : bears leaf y ≡ false → (i : ℕ) × DecidesBy bears ys i leaf x → (i : ℕ) × DecidesBy bears (y ∷ ys) i leaf x
      later passed (i, d) = (suc i, record { there = d.there; bearing = d.bearing; first = earlier_ones })
        where
          earlier_ones : (k : ℕ) (earlier : X) → k < suc i → slice_get (y ∷ ys) k ≡ Some earlier → bears leaf earlier ≡ false
          earlier_ones zero earlier lt there = cc (passed, there)
          earlier_ones (suc k) earlier lt there = d.first k earlier (omega (arith, lt)) there

-- ---- among those that apply the same is first
module _ (circle : CircleOf) (here : Here) (leaf : Leaf) where
  found_applied : (entries : List Entry) → find (bears circle here leaf) (applied circle here entries) ≡ find (bears circle here leaf) entries
  found_applied [] = refl
  found_applied (e ∷ es) =
      elim (applies e circle here) as (λ b. applies e circle here ≡ b
      → find (bears circle here leaf) (cond b (e ∷ applied circle here es) (applied circle here es)) ≡ cond (b && e.set leaf) (Some e) (find (bears circle here leaf) es)) [
        | true ↦ λ is. ap (λ b. cond (b && e.set leaf) (Some e) (find (bears circle here leaf) (applied circle here es))) is
            ∙ ap (λ rest. cond (e.set leaf) (Some e) rest) (found_applied es)
        | false ↦ λ is. found_applied es
      ] refl

  found_same : (xs ys : List Entry) → applied circle here xs ≡ applied circle here ys → find (bears circle here leaf) xs ≡ find (bears circle here leaf) ys
  found_same xs ys same = sym (found_applied xs) ∙ ap (find (bears circle here leaf)) same ∙ found_applied ys

  granted_same : (xs ys : List Entry) → applied circle here xs ≡ applied circle here ys → Grants xs circle here leaf → Grants ys circle here leaf
  granted_same xs ys same g =
      let there = found_deciding (bears circle here) leaf ys g.1 (sym (found_same xs ys same) ∙ deciding_found (bears circle here) leaf xs g.0 g.1 g.2) in
      (there.0, g.1, there.1, g.3)

pub allowed_same : (circle : CircleOf) (here : Here) (xs ys : List Entry) (set : Leaf → Bool)
    → applied circle here xs ≡ applied circle here ys → IsAllowed xs circle here set → IsAllowed ys circle here set
allowed_same circle here xs ys set same allowed = λ leaf wanted. granted_same circle here leaf xs ys same (allowed leaf wanted)

-- ---- lists one after the other
module _ (circle : CircleOf) where
  -- one that may apply is kept, one that applies nowhere is not
  module _ (entries : List Entry) (i : ℕ) (entry : Entry) (within : i < length entries) (at : entry ≡ get_or entries i entry)
      (before kept : List Entry) (so_far : AppliesAs circle (before ++ take i entries) kept) where
    one_more : (before ++ take i entries) ++ entry ∷ [] ≡ before ++ take (i + 1) entries
    one_more = append_assoc before (take i entries) (entry ∷ []) ∙ ap (λ es. before ++ es) (ap (λ e. take i entries ++ e ∷ []) at ∙ sym (take_more entries i entry within))

    pub kept_one : AppliesAs circle (before ++ take (i + 1) entries) (kept ++ entry ∷ [])
    kept_one = subst (λ all. AppliesAs circle all (kept ++ entry ∷ [])) one_more
        (applied_both circle (before ++ take i entries) kept (entry ∷ []) (entry ∷ []) so_far (λ here. refl))

    pub dropped_one : ((here : Here) → applies entry circle here ≡ false) → AppliesAs circle (before ++ take (i + 1) entries) kept
    dropped_one never = subst (λ all. AppliesAs circle all kept) one_more
        (subst (AppliesAs circle ((before ++ take i entries) ++ entry ∷ [])) (append-nil kept)
        (applied_both circle (before ++ take i entries) kept (entry ∷ []) [] so_far (λ here. sym (ap (λ b. cond b (entry ∷ []) []) (never here)))))
