-- A set of leaves is allowed or has a denial, whatever the entries.
use Rattle.book_lists_explain.proofs.Common.{◌≡◌, ◌<◌, ℕ, List, [], ◌∷◌, Bool, true, false, Option, Some, None, refl, sym, ap, ◌∙◌, ◌⊎◌, inl, inr, subst, arith, Leaf, Entry, Here, all_leaves}
use Rattle.std.proofs.Common.{suc, zero, slice_get, ◌≤◌}
use Rattle.std.proofs.lemmas.Bool.{both_ways, cases_lt}
use Rattle.book_rights.specs.Leaves.{each_leaf, place_of}
use Rattle.book_lists.proofs.OneLeaf.{denied_not_granted, one_index}
use Rattle.book_lists.specs.Circles.{CircleOf}
use Rattle.book_lists.specs.Decisions.{bears, Decides, Denies, Grants, IsAllowed, IsDenial, IsUndecided}

-- ---- what decides a leaf
module _ (circle : CircleOf) (here : Here) where
  later_first : (leaf : Leaf) (x : Entry) (xs : List Entry) (i : ℕ) → bears circle here leaf x ≡ false
      → ((k : ℕ) (y : Entry) → k < i → slice_get xs k ≡ Some y → bears circle here leaf y ≡ false)
      → (k : ℕ) (y : Entry) → k < suc i → slice_get (x ∷ xs) k ≡ Some y → bears circle here leaf y ≡ false
  later_first leaf x xs i f h zero y lt at = let same : x ≡ y = cc in subst (λ z. bears circle here leaf z ≡ false) same f
  later_first leaf x xs i f h (suc k) y lt at = h k y (omega (arith, lt)) at

  not_first : (leaf : Leaf) (x : Entry) (xs : List Entry) → bears circle here leaf x ≡ false → IsUndecided xs circle here leaf → IsUndecided (x ∷ xs) circle here leaf
  not_first leaf x xs f none zero e d =
      let t = d.there in
      let same : x ≡ e = cc (t) in
      both_ways _ f (ap (bears circle here leaf) same ∙ d.bearing)
  not_first leaf x xs f none (suc i) e d = none i e (record { there = d.there; bearing = d.bearing; first = λ k y lt at. d.first (suc k) y (omega (arith, lt)) at })

  pub found_or_not : (es : List Entry) (leaf : Leaf) → ((i : ℕ) × (e : Entry) × Decides es circle here i leaf e) ⊎ IsUndecided es circle here leaf
  found_or_not [] leaf = inr (λ i e d. absurd (let t = d.there in cc (t)))
  found_or_not (x ∷ es) leaf =
      elim (bears circle here leaf x) as (λ b. bears circle here leaf x ≡ b → ((i : ℕ) × (e : Entry) × Decides (x ∷ es) circle here i leaf e) ⊎ IsUndecided (x ∷ es) circle here leaf) [
        | true ↦ λ t. inl (0, x, record { there = refl; bearing = t; first = λ k y lt at. absurd (omega (arith, lt)) })
        | false ↦ λ f. elim (found_or_not es leaf) [
          | inl g ↦ inl (suc g.0, g.1, record { there = g.2.there; bearing = g.2.bearing; first = later_first leaf x es g.0 f g.2.first })
          | inr none ↦ inr (not_first leaf x es f none)
        ]
      ] refl

-- ---- what a need is denied by
abbrev pub In : Leaf → List Leaf → Type 0
In other [] = ⊥
In other (l ∷ ls) = (other ≡ l) ⊎ In other ls

pub in_all : (leaf : Leaf) → In leaf all_leaves
in_all = each_leaf (λ l. In l all_leaves) (inl refl) (inr (inl refl)) (inr (inr (inl refl))) (inr (inr (inr (inl refl))))
    (inr (inr (inr (inr (inl refl))))) (inr (inr (inr (inr (inr (inl refl)))))) (inr (inr (inr (inr (inr (inr (inl refl)))))))
    (inr (inr (inr (inr (inr (inr (inr (inl refl)))))))) (inr (inr (inr (inr (inr (inr (inr (inr (inl refl)))))))))

module _ (es : List Entry) (circle : CircleOf) (here : Here) (set : Leaf → Bool) where
  -- among these leaves: all that are needed are granted, or the earliest denial, or the least that is undecided
  abbrev AllGranted : List Leaf → Type 0
  AllGranted ls = (other : Leaf) → In other ls → set other ≡ true → Grants es circle here other

  abbrev IsAfter : ℕ → Leaf → ℕ → Leaf → Type 0
  IsAfter i leaf j other = (i < j) ⊎ ((i ≡ j) × (place_of leaf ≤ place_of other))

  record Earliest (ls : List Leaf) : Type 0 where
    i : ℕ
    leaf : Leaf
    needed : set leaf ≡ true
    denies : Denies es circle here i leaf
    first : (j : ℕ) (other : Leaf) → In other ls → set other ≡ true → Denies es circle here j other → IsAfter i leaf j other

  record Least (ls : List Leaf) : Type 0 where
    leaf : Leaf
    needed : set leaf ≡ true
    undecided : IsUndecided es circle here leaf
    least : (other : Leaf) → In other ls → set other ≡ true → IsUndecided es circle here other → place_of leaf ≤ place_of other
    undenied : (j : ℕ) (other : Leaf) → In other ls → set other ≡ true → Denies es circle here j other → ⊥

  abbrev Among : List Leaf → Type 0
  Among ls = AllGranted ls ⊎ (Earliest ls ⊎ Least ls)

  -- a leaf that isn't needed
  unneeded : (l : Leaf) (ls : List Leaf) → set l ≡ false → Among ls → Among (l ∷ ls)
  unneeded l ls off (inl all) = inl (λ other is has. elim is [
    | inl same ↦ absurd (both_ways _ off (sym (ap set same) ∙ has))
    | inr later ↦ all other later has
  ])
  unneeded l ls off (inr (inl e)) = inr (inl (record {
    i = e.i;
    leaf = e.leaf;
    needed = e.needed;
    denies = e.denies;
    first = λ j other is has d. elim is [
      | inl same ↦ absurd (both_ways _ off (sym (ap set same) ∙ has))
      | inr later ↦ e.first j other later has d
    ];
  }))
  unneeded l ls off (inr (inr e)) = inr (inr (record {
    leaf = e.leaf;
    needed = e.needed;
    undecided = e.undecided;
    least = λ other is has u. elim is [
      | inl same ↦ absurd (both_ways _ off (sym (ap set same) ∙ has))
      | inr later ↦ e.least other later has u
    ];
    undenied = λ j other is has d. elim is [
      | inl same ↦ absurd (both_ways _ off (sym (ap set same) ∙ has))
      | inr later ↦ e.undenied j other later has d
    ];
  }))

  not_both : (i : ℕ) (other l : Leaf) → other ≡ l → Denies es circle here i other → Grants es circle here l → ⊥
  not_both i other l same d g = denied_not_granted es circle here l i (subst (Denies es circle here i) same d) g

  -- a leaf that is granted
  is_granted : (l : Leaf) (ls : List Leaf) → Grants es circle here l → Among ls → Among (l ∷ ls)
  is_granted l ls g (inl all) = inl (λ other is has. elim is [
    | inl same ↦ subst (Grants es circle here) (sym same) g
    | inr later ↦ all other later has
  ])
  is_granted l ls g (inr (inl e)) = inr (inl (record {
    i = e.i;
    leaf = e.leaf;
    needed = e.needed;
    denies = e.denies;
    first = λ j other is has d. elim is [
      | inl same ↦ absurd (not_both j other l same d g)
      | inr later ↦ e.first j other later has d
    ];
  }))
  is_granted l ls g (inr (inr e)) = inr (inr (record {
    leaf = e.leaf;
    needed = e.needed;
    undecided = e.undecided;
    least = λ other is has u. elim is [
      | inl same ↦ absurd (u g.0 g.1 (subst (λ x. Decides es circle here g.0 x g.1) (sym same) g.2))
      | inr later ↦ e.least other later has u
    ];
    undenied = λ j other is has d. elim is [
      | inl same ↦ not_both j other l same d g
      | inr later ↦ e.undenied j other later has d
    ];
  }))

  same_place : (i j : ℕ) (l other : Leaf) → other ≡ l → Denies es circle here i l → Denies es circle here j other → IsAfter i l j other
  same_place i j l other same d e =
      let moved : Denies es circle here j l = subst (Denies es circle here j) same e in
      let at : i ≡ j = one_index es circle here l i j d.0 moved.0 d.1 moved.1 in
      inr (at, subst (λ x. place_of l ≤ place_of x) (sym same) (omega arith))

  -- a leaf that is denied
  is_denied : (l : Leaf) (ls : List Leaf) (i : ℕ) → set l ≡ true → Denies es circle here i l → Among ls → Among (l ∷ ls)
  is_denied l ls i needed d (inl all) = inr (inl (record {
    i = i;
    leaf = l;
    needed = needed;
    denies = d;
    first = λ j other is has e. elim is [
      | inl same ↦ same_place i j l other same d e
      | inr later ↦ absurd (denied_not_granted es circle here other j e (all other later has))
    ];
  }))
  is_denied l ls i needed d (inr (inr u)) = inr (inl (record {
    i = i;
    leaf = l;
    needed = needed;
    denies = d;
    first = λ j other is has e. elim is [
      | inl same ↦ same_place i j l other same d e
      | inr later ↦ absurd (u.undenied j other later has e)
    ];
  }))
  is_denied l ls i needed d (inr (inl e)) = elim (closer i l e.i e.leaf) [
    | inl mine ↦ inr (inl (record {
      i = i;
      leaf = l;
      needed = needed;
      denies = d;
      first = λ j other is has x. elim is [
        | inl same ↦ same_place i j l other same d x
        | inr later ↦ onward i l e.i e.leaf j other mine (e.first j other later has x)
      ];
    }))
    | inr other_first ↦ inr (inl (record {
      i = e.i;
      leaf = e.leaf;
      needed = e.needed;
      denies = e.denies;
      first = λ j other is has x. elim is [
        | inl same ↦ onward e.i e.leaf i l j other other_first (same_place i j l other same d x)
        | inr later ↦ e.first j other later has x
      ];
    }))
  ]
    where
      closer : (i : ℕ) (l : Leaf) (j : ℕ) (m : Leaf) → IsAfter i l j m ⊎ IsAfter j m i l
      closer i l j m = elim (cases_lt i j) [
        | inl lt ↦ inl (inl lt)
        | inr le ↦ elim (cases_lt j i) [
          | inl lt ↦ inr (inl lt)
          | inr ge ↦
              let same : i ≡ j = omega (arith, le, ge) in
              elim (cases_lt (place_of l) (place_of m)) [
                | inl lt ↦ inl (inr (same, omega (arith, lt)))
                | inr more ↦ inr (inr (sym same, more))
              ]
        ]
      ]

      onward : (i : ℕ) (l : Leaf) (j : ℕ) (m : Leaf) (k : ℕ) (n : Leaf) → IsAfter i l j m → IsAfter j m k n → IsAfter i l k n
      onward i l j m k n (inl a) (inl b) = inl (omega (arith, a, b))
      onward i l j m k n (inl a) (inr b) = let same = b.0 in inl (omega (arith, a, same))
      onward i l j m k n (inr a) (inl b) = let same = a.0 in inl (omega (arith, b, same))
      onward i l j m k n (inr a) (inr b) = let x = a.1 in let y = b.1 in inr (a.0 ∙ b.0, omega (arith, x, y))

  -- a leaf that nothing decides
  is_undecided : (l : Leaf) (ls : List Leaf) → set l ≡ true → IsUndecided es circle here l → Among ls → Among (l ∷ ls)
  is_undecided l ls needed u (inl all) = inr (inr (record {
    leaf = l;
    needed = needed;
    undecided = u;
    least = λ other is has x. elim is [
      | inl same ↦ subst (λ y. place_of l ≤ place_of y) (sym same) (omega arith)
      | inr later ↦ let g = all other later has in absurd (x g.0 g.1 g.2)
    ];
    undenied = λ j other is has d. elim is [
      | inl same ↦ let e = subst (Denies es circle here j) same d in u j e.0 e.1
      | inr later ↦ denied_not_granted es circle here other j d (all other later has)
    ];
  }))
  is_undecided l ls needed u (inr (inl e)) = inr (inl (record {
    i = e.i;
    leaf = e.leaf;
    needed = e.needed;
    denies = e.denies;
    first = λ j other is has d. elim is [
      | inl same ↦ let x = subst (Denies es circle here j) same d in absurd (u j x.0 x.1)
      | inr later ↦ e.first j other later has d
    ];
  }))
  is_undecided l ls needed u (inr (inr e)) = elim (cases_lt (place_of l) (place_of e.leaf)) [
    | inl lt ↦ inr (inr (record {
      leaf = l;
      needed = needed;
      undecided = u;
      least = λ other is has x. elim is [
        | inl same ↦ subst (λ y. place_of l ≤ place_of y) (sym same) (omega arith)
        | inr later ↦ let h = e.least other later has x in omega (arith, lt, h)
      ];
      undenied = λ j other is has d. elim is [
        | inl same ↦ let x = subst (Denies es circle here j) same d in u j x.0 x.1
        | inr later ↦ e.undenied j other later has d
      ];
    }))
    | inr le ↦ inr (inr (record {
      leaf = e.leaf;
      needed = e.needed;
      undecided = e.undecided;
      least = λ other is has x. elim is [
        | inl same ↦ subst (λ y. place_of e.leaf ≤ place_of y) (sym same) le
        | inr later ↦ e.least other later has x
      ];
      undenied = λ j other is has d. elim is [
        | inl same ↦ let x = subst (Denies es circle here j) same d in u j x.0 x.1
        | inr later ↦ e.undenied j other later has d
      ];
    }))
  ]

  one_more_leaf : (l : Leaf) (ls : List Leaf) → Among ls → Among (l ∷ ls)
  one_more_leaf l ls rest = elim (set l) as (λ b. set l ≡ b → Among (l ∷ ls)) [
    | true ↦ λ needed. elim (found_or_not circle here es l) [
      | inl g ↦ elim (g.1.deny) as (λ b. g.1.deny ≡ b → Among (l ∷ ls)) [
        | true ↦ λ deny. is_denied l ls g.0 needed (g.1, g.2, deny) rest
        | false ↦ λ grant. is_granted l ls (g.0, g.1, g.2, grant) rest
      ] refl
      | inr none ↦ is_undecided l ls needed none rest
    ]
    | false ↦ λ off. unneeded l ls off rest
  ] refl

  among : (ls : List Leaf) → Among ls
  among [] = inl (λ other is has. absurd is)
  among (l ∷ ls) = one_more_leaf l ls (among ls)

  decided_by : Among all_leaves → IsAllowed es circle here set ⊎ ((leaf : Leaf) × (index : Option ℕ) × IsDenial es circle here set leaf index)
  decided_by (inl all) = inl (λ leaf has. all leaf (in_all leaf) has)
  decided_by (inr (inl e)) = inr (e.leaf, Some e.i, (e.needed, e.denies, λ j other has d. e.first j other (in_all other) has d))
  decided_by (inr (inr e)) = inr (e.leaf, None, (e.needed, e.undecided, (λ other has u. e.least other (in_all other) has u), (λ j other has d. e.undenied j other (in_all other) has d)))

pub decision : (es : List Entry) (circle : CircleOf) (here : Here) (set : Leaf → Bool) → IsAllowed es circle here set ⊎ ((leaf : Leaf) × (index : Option ℕ) × IsDenial es circle here set leaf index)
decision es circle here set = decided_by es circle here set (among es circle here set all_leaves)
