-- A caller has one circle, and a list of entries one outcome and one set that it grants.
use Rattle.book_lists.proofs.Common.{◌≡◌, ℕ, ◌<◌, ◌≤◌, ◌⊎◌, ◌↔◌, Bool, List, [], ◌∷◌, get_or, Option, Some, None, inl, inr, refl, sym, ap, ◌∙◌, arith, same_set, false≢true, nat_list_cmp_total, Leaf, Entry, Here, CircleOf, IsAllowed, IsDenial}
use Rattle.std.specs.FinSet.{contains, slice_cmp-IsAntisymmetric, nat_cmp-IsAntisymmetric}
use Rattle.book_rights.specs.declared.privileges.Leaf.TheVariants.{ReadTexts, WriteContent, WriteProperties, Bind, Unbind, ReadAcl, WriteAcl, ReadCurrentUserPrivilegeSet, ReadNames}
use Rattle.book_rights.specs.Leaves.{place_of, each_leaf}
use Rattle.book_rights.specs.Leaves as leaves
use Rattle.book_lists.specs.declared.circles.Caller.{Caller}
use Rattle.book_lists.specs.declared.decisions.Outcome.{Outcome}
use Rattle.book_lists.specs.declared.decisions.Outcome.TheVariants.{Allowed, Denied}
use Rattle.book_lists.specs.Callers.{IsCircle}
use Rattle.book_lists.specs.Decisions.{IsGrantedSet, IfDenied}
use Rattle.book_lists.specs.Memberships.{Memberships}
use Rattle.book_rights.proofs.Masks.{same_test}

pub leaf_at : ℕ → Leaf
leaf_at n = get_or (ReadTexts ∷ WriteContent ∷ WriteProperties ∷ Bind ∷ Unbind ∷ ReadAcl ∷ WriteAcl ∷ ReadCurrentUserPrivilegeSet ∷ ReadNames ∷ []) n ReadTexts

pub leaf_at-place_of : (leaf : Leaf) → leaf_at (place_of leaf) ≡ leaf
unfolding leaf_at
leaf_at-place_of leaf = each_leaf (λ l. leaf_at (place_of l) ≡ l) refl refl refl refl refl refl refl refl refl leaf

same_leaf : (a b : Leaf) → place_of a ≤ place_of b → place_of b ≤ place_of a → a ≡ b
same_leaf a b below above =
    let same : place_of a ≡ place_of b = omega arith in
    sym (leaf_at-place_of a) ∙ ap leaf_at same ∙ leaf_at-place_of b

-- ---- the circle of a caller
pub one_circle : (pairs : Memberships) (caller : Caller) (c d : CircleOf) → IsCircle pairs caller c → IsCircle pairs caller d → c ≡ d
one_circle pairs caller None None a b = refl
one_circle pairs caller None (Some t) a b = absurd (false≢true (a.known ∙ sym b.known))
one_circle pairs caller (Some s) None a b = absurd (false≢true (b.known ∙ sym a.known))
one_circle pairs caller (Some s) (Some t) a b =
    ap Some (same_set nat_list_cmp_total (slice_cmp-IsAntisymmetric nat_cmp-IsAntisymmetric) s t
    (λ q. same_test (contains s q) (contains t q) _ (a.principals q) (b.principals q)))

-- ---- the outcome of a decision, and what is granted
module _ (entries : List Entry) (circle : CircleOf) (here : Here) where
  one_denial : (need : Leaf → Bool) (a b : Leaf) (i j : Option ℕ) → IsDenial entries circle here need a i → IsDenial entries circle here need b j → Denied a i ≡ Denied b j
  one_denial need a b None None d e =
      let same : a ≡ b = same_leaf a b (d.2 b e.0 e.1) (e.2 a d.0 d.1) in ap (λ l. Denied l None) same
  one_denial need a b None (Some j) d e = absurd (d.3 j b e.0 e.1)
  one_denial need a b (Some i) None d e = absurd (e.3 i a d.0 d.1)
  one_denial need a b (Some i) (Some j) d e = go (d.2 j b e.0 e.1) (e.2 i a d.0 d.1)
    where
      go : (i < j) ⊎ ((i ≡ j) × (place_of a ≤ place_of b)) → (j < i) ⊎ ((j ≡ i) × (place_of b ≤ place_of a)) → Denied a (Some i) ≡ Denied b (Some j)
      go (inl p) (inl q) = absurd (omega (arith, p, q))
      go (inl p) (inr q) = absurd (omega (arith, p, q.0))
      go (inr p) (inl q) = absurd (omega (arith, p.0, q))
      go (inr p) (inr q) = let same : a ≡ b = same_leaf a b p.1 q.1 in λ k. Denied (same k) (Some (p.0 k))

  pub one_outcome : (need : Leaf → Bool) (o p : Outcome) → (o ≡ Allowed) ↔ IsAllowed entries circle here need → IfDenied o (IsDenial entries circle here need)
      → (p ≡ Allowed) ↔ IsAllowed entries circle here need → IfDenied p (IsDenial entries circle here need) → o ≡ p
  one_outcome need Allowed Allowed a d b e = refl
  one_outcome need Allowed (Denied l i) a d b e = sym (b.1 (a.0 refl))
  one_outcome need (Denied l i) Allowed a d b e = a.1 (b.0 refl)
  one_outcome need (Denied l i) (Denied m j) a d b e = one_denial need l m i j d e

  pub one_grant : (f g : Leaf → Bool) → IsGrantedSet entries circle here f → IsGrantedSet entries circle here g → f ≡ g
  one_grant f g a b = leaves.same_set f g (λ leaf. same_test (f leaf) (g leaf) _ (a leaf) (b leaf))
