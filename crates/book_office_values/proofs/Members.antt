-- Entries of lists and of finite maps.
use Rattle.book_office_values.proofs.Common.{◌≡◌, inl, inr, Bool, true, false, cond, ◌&&◌, List, [], ◌∷◌, Some, refl, sym, ap, ◌∙◌, subst, Ordering, Less, Equal, Greater, is_eq, is_lt, eq_by_cmp_equiv, IsAntisymmetric, get, entries, find}
use Rattle.std.proofs.Common.{T}
use Rattle.std.specs.Ordering.{eq_by_cmp}
use Rattle.std.specs.Cmp.{IsTotalOrder}
use Rattle.std.specs.FinMap.{FinMap, entries_sorted, is_sorted, get-entries}
use Rattle.std.specs.FinMap.Entries.{below_all}
pub use Rattle.book_lists.proofs.Elements.{Mem, mem_map}
use Rattle.book_lists.proofs.Elements.{tied}

pub less : (r : Ordering) → T (is_lt r) → r ≡ Less
less Less h = refl
less Equal h = absurd h
less Greater h = absurd h

pub first : (a b : Bool) → T (a && b) → T a
first true b h = tt
first false b h = h

pub second : (a b : Bool) → T (a && b) → T b
second true b h = h
second false b h = absurd h

ties_itself : {K : Type 0} {R : K → K → Ordering} → IsTotalOrder R → (k : K) → eq_by_cmp R k k ≡ true
ties_itself o k = (eq_by_cmp_equiv o).refl k

above_apart : {K : Type 0} {R : K → K → Ordering} → IsTotalOrder R → (x k : K) → R x k ≡ Less → eq_by_cmp R k x ≡ false
above_apart o x k h = (eq_by_cmp_equiv o).symm k x ∙ ap is_eq h

module _ {K X : Type 0} {R : K → K → Ordering} (o : IsTotalOrder R) (apart : IsAntisymmetric R) where
  pub find_mem : (es : List (K × X)) (k : K) (v : X) → find R k es ≡ Some v → Mem (k, v) es
  find_mem [] k v e = absurd cc
  find_mem (e ∷ es) k v is =
      elim (eq_by_cmp R k e.0) as (λ b. eq_by_cmp R k e.0 ≡ b → cond b (Some e.1) (find R k es) ≡ Some v → Mem (k, v) (e ∷ es)) [
        | true ↦ λ t h. inl (let a : k ≡ e.0 = apart k e.0 (tied _ t) in let b : e.1 ≡ v = cc in λ i. (a i, sym b i))
        | false ↦ λ _ h. inr (find_mem es k v h)
      ] refl is

  -- at a key that stands in the list something is found
  pub mem_some : (es : List (K × X)) (k : K) (v : X) → Mem (k, v) es → (w : X) × (find R k es ≡ Some w)
  mem_some [] k v m = absurd m
  mem_some (e ∷ es) k v m =
      elim (eq_by_cmp R k e.0) as (λ b. eq_by_cmp R k e.0 ≡ b → (w : X) × (cond b (Some e.1) (find R k es) ≡ Some w)) [
        | true ↦ λ _. (e.1, refl)
        | false ↦ λ f. elim m [ inl is ↦ absurd (let a : eq_by_cmp R k e.0 ≡ true = subst (λ x. eq_by_cmp R k x ≡ true) (ap (λ p. p.0) is) (ties_itself o k) in cc) | inr r ↦ mem_some es k v r ]
      ] refl

  below_mem : (x : K) (es : List (K × X)) (k : K) (v : X) → T (below_all R x es) → Mem (k, v) es → R x k ≡ Less
  below_mem x [] k v h m = absurd m
  below_mem x (e ∷ es) k v h m = elim m [
    | inl is ↦ subst (λ y. R x y ≡ Less) (sym (ap (λ p. p.0) is)) (less _ (first _ _ h))
    | inr r ↦ below_mem x es k v (second _ _ h) r
  ]

  mem_find : (es : List (K × X)) (k : K) (v : X) → T (is_sorted R es) → Mem (k, v) es → find R k es ≡ Some v
  mem_find [] k v s m = absurd m
  mem_find (e ∷ es) k v s m = elim m [
    | inl is ↦ subst (λ (p : K × X). find R p.0 (e ∷ es) ≡ Some p.1) (sym is) (ap (λ b. cond b (Some e.1) (find R e.0 es)) (ties_itself o e.0))
    | inr r ↦ ap (λ b. cond b (Some e.1) (find R k es)) (above_apart o e.0 k (below_mem e.0 es k v (first _ _ s) r)) ∙ mem_find es k v (second _ _ s) r
  ]

  -- the entries of a map are what it has at its keys
  pub mem_get : (m : FinMap R X) (k : K) (v : X) → Mem (k, v) (entries m) → get m k ≡ Some v
  mem_get m k v h = get-entries m k ∙ mem_find (entries m) k v (entries_sorted m) h

  pub get_mem : (m : FinMap R X) (k : K) (v : X) → get m k ≡ Some v → Mem (k, v) (entries m)
  get_mem m k v h = find_mem (entries m) k v (sym (get-entries m k) ∙ h)
