-- The last changes of the names that a map has, entered name by name.
use Rattle.book_office_values.proofs.Common.{◌≡◌, ◌⊎◌, inl, inr, ℕ, Bool, true, false, cond, ◌&&◌, List, [], ◌∷◌, filter, nat_lt, Option, Some, None, refl, sym, ap, ◌∙◌, subst, Ordering, is_lt, nat_cmp_total, nat_list_cmp_total, get, insert, entries, get-insert, same_map, nat_cmp-IsAntisymmetric, NamesTo, Numbers, AreNumbers}
use Rattle.std.proofs.Common.{T, map, is_some}
use Rattle.std.specs.Ordering.{nat_cmp}
use Rattle.std.specs.FinMap.{empty, from_sorted, entries-from_sorted, entries_sorted, is_sorted, get-empty, get-from_entries}
use Rattle.std.specs.FinMap.Entries.{below_all}
use Rattle.std.proofs.lemmas.Option.{same_Some}
use Rattle.book_office_values.specs.Changes.{NumberedNames, Change, above, by_number, changes_after, with_number}
use Rattle.book_office_values.proofs.Indexes.{one, is_one, one_itself, unswap}
use Rattle.book_office_values.proofs.Members.{Mem, first, second, find_mem, mem_map, mem_some, mem_get, get_mem}
use Rattle.book_office_values.proofs.NameMapLaws.{names_apart}
use Rattle.book_office_values.proofs.OneName.{some_apart}

both : (a b : Bool) → T a → T b → T (a && b)
both true b h k = k
both false b h k = h

-- ---- what passes a test
module _ {K X : Type 0} (R : K → K → Ordering) (p : K × X → Bool) where
  below_filter : (k : K) (es : List (K × X)) → T (below_all R k es) → T (below_all R k (filter p es))
  below_filter k [] h = tt
  below_filter k (e ∷ es) h = elim (p e) as (λ b. T (below_all R k (cond b (e ∷ filter p es) (filter p es)))) [
    | true ↦ both (is_lt (R k e.0)) (below_all R k (filter p es)) (first _ _ h) (below_filter k es (second _ _ h))
    | false ↦ below_filter k es (second _ _ h)
  ]

  sorted_filter : (es : List (K × X)) → T (is_sorted R es) → T (is_sorted R (filter p es))
  sorted_filter [] h = tt
  sorted_filter (e ∷ es) h = elim (p e) as (λ b. T (is_sorted R (cond b (e ∷ filter p es) (filter p es)))) [
    | true ↦ both (below_all R e.0 (filter p es)) (is_sorted R (filter p es)) (below_filter e.0 es (first _ _ h)) (sorted_filter es (second _ _ h))
    | false ↦ sorted_filter es (second _ _ h)
  ]

module _ {A : Type 0} (p : A → Bool) where
  -- what is among the elements that pass
  passed : (x : A) (xs : List A) → Mem x (filter p xs) → Mem x xs × (p x ≡ true)
  passed x [] m = absurd m
  passed x (y ∷ ys) m = elim (p y) as (λ b. p y ≡ b → Mem x (cond b (y ∷ filter p ys) (filter p ys)) → Mem x (y ∷ ys) × (p x ≡ true)) [
    | true ↦ λ t h. elim h [ inl is ↦ (inl is, ap p is ∙ t) | inr r ↦ (let rest = passed x ys r in (inr rest.0, rest.1)) ]
    | false ↦ λ _ h. let rest = passed x ys h in (inr rest.0, rest.1)
  ] refl m

  passes : (x : A) (xs : List A) → Mem x xs → p x ≡ true → Mem x (filter p xs)
  passes x [] m t = absurd m
  passes x (y ∷ ys) m t = elim (p y) as (λ b. p y ≡ b → Mem x (cond b (y ∷ filter p ys) (filter p ys))) [
    | true ↦ λ _. elim m [ inl is ↦ inl is | inr r ↦ inr (passes x ys r t) ]
    | false ↦ λ f. elim m [ inl is ↦ absurd (let clash : true ≡ false = sym t ∙ ap p is ∙ f in cc) | inr r ↦ passes x ys r t ]
  ] refl

-- two tests may come in either order
pub in_turn : {A : Type 0} (p q : A → Bool) (xs : List A) → filter p (filter q xs) ≡ filter q (filter p xs)
in_turn p q [] = refl
in_turn p q (x ∷ xs) = elim (p x) as (λ a. p x ≡ a → filter p (cond (q x) (x ∷ filter q xs) (filter q xs)) ≡ filter q (cond a (x ∷ filter p xs) (filter p xs))) [
  | true ↦ λ t. elim (q x) as (λ b. q x ≡ b → filter p (cond b (x ∷ filter q xs) (filter q xs)) ≡ cond b (x ∷ filter q (filter p xs)) (filter q (filter p xs))) [
    | true ↦ λ _. ap (λ c. cond c (x ∷ filter p (filter q xs)) (filter p (filter q xs))) t ∙ ap (λ l. x ∷ l) (in_turn p q xs)
    | false ↦ λ _. in_turn p q xs
  ] refl
  | false ↦ λ f. elim (q x) as (λ b. q x ≡ b → filter p (cond b (x ∷ filter q xs) (filter q xs)) ≡ filter q (filter p xs)) [
    | true ↦ λ _. ap (λ c. cond c (x ∷ filter p (filter q xs)) (filter p (filter q xs))) f ∙ in_turn p q xs
    | false ↦ λ _. in_turn p q xs
  ] refl
] refl

-- a test that was passed is passed once more
pub once_more : {A : Type 0} (p : A → Bool) (xs : List A) → filter p (filter p xs) ≡ filter p xs
once_more p [] = refl
once_more p (x ∷ xs) = elim (p x) as (λ b. p x ≡ b → filter p (cond b (x ∷ filter p xs) (filter p xs)) ≡ cond b (x ∷ filter p xs) (filter p xs)) [
  | true ↦ λ t. ap (λ b. cond b (x ∷ filter p (filter p xs)) (filter p (filter p xs))) t ∙ ap (λ l. x ∷ l) (once_more p xs)
  | false ↦ λ _. once_more p xs
] refl

-- ---- the names by number
module _ (c : Numbers) (numbers : AreNumbers c) where
  abbrev listed : List Change
  listed = map (λ (e : List ℕ × ℕ). (e.1, e.0)) (entries c.last)

  pub number_back : (n : ℕ) (q : List ℕ) → get (by_number c.last) n ≡ Some q → get c.last q ≡ Some n
  number_back n q f = mem_get nat_list_cmp_total names_apart c.last q n (unswap (entries c.last) n q (find_mem nat_cmp_total nat_cmp-IsAntisymmetric listed n q (sym (get-from_entries nat_cmp_total listed n) ∙ f)))

  pub number_there : (q : List ℕ) (n : ℕ) → get c.last q ≡ Some n → get (by_number c.last) n ≡ Some q
  number_there q n at =
      let some = mem_some nat_cmp_total nat_cmp-IsAntisymmetric listed n q (mem_map (λ (e : List ℕ × ℕ). (e.1, e.0)) (q, n) (entries c.last) (get_mem nat_list_cmp_total names_apart c.last q n at)) in
      let got : get (by_number c.last) n ≡ Some some.0 = get-from_entries nat_cmp_total listed n ∙ some.1 in
      got ∙ ap Some (numbers.different some.0 q n (number_back n some.0 got) at)

-- the names of a list, each entered under the number of its last change where that is above n
abbrev pub entered : {V : Type 0} → NamesTo ℕ → ℕ → List (List ℕ × V) → NumberedNames → NumberedNames
entered last a [] names = names
entered last a (e ∷ es) names = entered last a es (with_number names (above a (get last e.0)) e.0)

-- where the number is above a, and where it is not
module _ (names : NumberedNames) (a m : ℕ) (k : List ℕ) where
  with_above : nat_lt a m ≡ true → with_number names (above a (Some m)) k ≡ insert names m k
  with_above t = ap (λ b. with_number names (cond b (Some m) None) k) t

  without_above : nat_lt a m ≡ false → with_number names (above a (Some m)) k ≡ names
  without_above f = ap (λ b. with_number names (cond b (Some m) None) k) f

module _ (c : Numbers) (numbers : AreNumbers c) (a : ℕ) where
  -- one name more changes no other number
  with_at : (names : NumberedNames) (r : Option ℕ) (k : List ℕ) → get c.last k ≡ r → (n : ℕ) (q : List ℕ) → get (with_number names (above a r) k) n ≡ Some q
      → (get names n ≡ Some q) ⊎ ((get c.last q ≡ Some n) × (nat_lt a n ≡ true) × (k ≡ q))
  with_at names None k at n q e = inl e
  with_at names (Some m) k at n q e = elim (nat_lt a m) as (λ l. nat_lt a m ≡ l → (get names n ≡ Some q) ⊎ ((get c.last q ≡ Some n) × (nat_lt a n ≡ true) × (k ≡ q))) [
    | true ↦ λ later. elim (one n m) as (λ b. one n m ≡ b → cond b (Some k) (get names n) ≡ Some q → (get names n ≡ Some q) ⊎ ((get c.last q ≡ Some n) × (nat_lt a n ≡ true) × (k ≡ q))) [
      | true ↦ λ t h. let is : k ≡ q = same_Some k q h in
          inr (ap (get c.last) (sym is) ∙ at ∙ ap Some (sym (is_one n m t)), ap (nat_lt a) (is_one n m t) ∙ later, is)
      | false ↦ λ _ h. inl h
    ] refl (sym (get-insert nat_cmp_total names m k n) ∙ ap (λ l. get l n) (sym (with_above names a m k later)) ∙ e)
    | false ↦ λ early. inl (ap (λ l. get l n) (sym (without_above names a m k early)) ∙ e)
  ] refl

  -- and a number that its name has already
  with_kept : (names : NumberedNames) (r : Option ℕ) (k : List ℕ) → get c.last k ≡ r → (n : ℕ) (q : List ℕ) → get c.last q ≡ Some n → get names n ≡ Some q
      → get (with_number names (above a r) k) n ≡ Some q
  with_kept names None k at n q last e = e
  with_kept names (Some m) k at n q last e = elim (nat_lt a m) as (λ l. nat_lt a m ≡ l → get (with_number names (above a (Some m)) k) n ≡ Some q) [
    | true ↦ λ later. ap (λ l. get l n) (with_above names a m k later) ∙ get-insert nat_cmp_total names m k n
        ∙ elim (one n m) as (λ b. one n m ≡ b → cond b (Some k) (get names n) ≡ Some q) [
          | true ↦ λ t. ap Some (numbers.different k q n (at ∙ ap Some (sym (is_one n m t))) last)
          | false ↦ λ _. e
        ] refl
    | false ↦ λ early. ap (λ l. get l n) (without_above names a m k early) ∙ e
  ] refl

  with_itself : (names : NumberedNames) (r : Option ℕ) (k : List ℕ) (n : ℕ) → nat_lt a n ≡ true → r ≡ Some n → get (with_number names (above a r) k) n ≡ Some k
  with_itself names None k n later e = some_apart (sym e)
  with_itself names (Some m) k n later e =
      let is : m ≡ n = same_Some m n e in
      ap (λ l. get l n) (with_above names a m k (ap (nat_lt a) is ∙ later))
      ∙ get-insert nat_cmp_total names m k n ∙ ap (λ b. cond b (Some k) (get names n)) (subst (λ x. one n x ≡ true) (sym is) (one_itself n))

module _ {V : Type 0} (c : Numbers) (numbers : AreNumbers c) (a : ℕ) where
  entered_at : (es : List (List ℕ × V)) (names : NumberedNames) (n : ℕ) (q : List ℕ) → get (entered c.last a es names) n ≡ Some q
      → (get names n ≡ Some q) ⊎ ((get c.last q ≡ Some n) × (nat_lt a n ≡ true) × ((v : V) × Mem (q, v) es))
  entered_at [] names n q e = inl e
  entered_at (x ∷ es) names n q e = elim (entered_at es (with_number names (above a (get c.last x.0)) x.0) n q e) [
    | inl h ↦ elim (with_at c numbers a names (get c.last x.0) x.0 refl n q h) [ inl old ↦ inl old | inr new ↦ inr (new.0, new.1, (x.1, inl (λ i. (sym new.2 i, x.1)))) ]
    | inr h ↦ inr (h.0, h.1, (h.2.0, inr h.2.1))
  ]

  entered_kept : (es : List (List ℕ × V)) (names : NumberedNames) (n : ℕ) (q : List ℕ) → get c.last q ≡ Some n → get names n ≡ Some q → get (entered c.last a es names) n ≡ Some q
  entered_kept [] names n q last e = e
  entered_kept (x ∷ es) names n q last e = entered_kept es _ n q last (with_kept c numbers a names (get c.last x.0) x.0 refl n q last e)

  entered_there : (es : List (List ℕ × V)) (names : NumberedNames) (n : ℕ) (q : List ℕ) (v : V) → Mem (q, v) es → get c.last q ≡ Some n → nat_lt a n ≡ true
      → get (entered c.last a es names) n ≡ Some q
  entered_there [] names n q v m last later = absurd m
  entered_there (x ∷ es) names n q v m last later = elim m [
    | inl is ↦
        let key : q ≡ x.0 = ap (λ p. p.0) is in
        entered_kept es _ n q last (with_itself c numbers a names (get c.last x.0) x.0 n later (ap (get c.last) (sym key) ∙ last) ∙ ap Some (sym key))
    | inr r ↦ entered_there es _ n q v r last later
  ]

  module _ (cards : NamesTo V) where
    abbrev has : Change → Bool
    has x = is_some (get cards x.1)

    abbrev later : Change → Bool
    later x = nat_lt a x.0

    abbrev told : List Change
    told = filter has (changes_after c.last a)

    abbrev kept : NumberedNames
    kept = from_sorted told

    kept_entries : entries kept ≡ told
    kept_entries = entries-from_sorted nat_cmp _ (sorted_filter nat_cmp has (changes_after c.last a) (sorted_filter nat_cmp later (entries (by_number c.last)) (entries_sorted (by_number c.last))))

    found : (r : Option V) (q : List ℕ) → get cards q ≡ r → is_some r ≡ true → (v : V) × Mem (q, v) (entries cards)
    found None q at t = absurd cc
    found (Some v) q at t = (v, get_mem nat_list_cmp_total names_apart cards q v at)

    kept_back : (n : ℕ) (q : List ℕ) → get kept n ≡ Some q → get (entered c.last a (entries cards) empty) n ≡ Some q
    kept_back n q e =
        let in_filter = subst (Mem (n, q)) kept_entries (get_mem nat_cmp_total nat_cmp-IsAntisymmetric kept n q e) in
        let parts = passed has (n, q) (changes_after c.last a) in_filter in
        let whole = passed later (n, q) (entries (by_number c.last)) parts.0 in
        let last = number_back c numbers n q (mem_get nat_cmp_total nat_cmp-IsAntisymmetric (by_number c.last) n q whole.0) in
        let card = found (get cards q) q refl parts.1 in
        entered_there (entries cards) empty n q card.0 card.1 last whole.1

    kept_there : (n : ℕ) (q : List ℕ) → get (entered c.last a (entries cards) empty) n ≡ Some q → get kept n ≡ Some q
    kept_there n q e = elim (entered_at (entries cards) empty n q e) [
      | inl none ↦ some_apart (sym none ∙ get-empty nat_cmp n)
      | inr h ↦
          let whole = get_mem nat_cmp_total nat_cmp-IsAntisymmetric (by_number c.last) n q (number_there c numbers q n h.0) in
          let above = passes later (n, q) (entries (by_number c.last)) whole h.1 in
          let card = mem_get nat_list_cmp_total names_apart cards q h.2.0 h.2.1 in
          mem_get nat_cmp_total nat_cmp-IsAntisymmetric kept n q (subst (Mem (n, q)) (sym kept_entries) (passes has (n, q) (changes_after c.last a) above (ap is_some card)))
    ]

    entered_are : entered c.last a (entries cards) empty ≡ kept
    entered_are = same_map nat_cmp_total nat_cmp-IsAntisymmetric _ _ (λ n. elim (get kept n) as (λ x. get kept n ≡ x → get (entered c.last a (entries cards) empty) n ≡ x) [
      | Some q ↦ λ e. kept_back n q e
      | None ↦ λ e. elim (get (entered c.last a (entries cards) empty) n) as (λ y. get (entered c.last a (entries cards) empty) n ≡ y → y ≡ None) [
        | None ↦ λ _. refl
        | Some q ↦ λ f. some_apart (sym (kept_there n q f) ∙ e)
      ] refl
    ] refl)

    -- the names of the cards, entered in turn, give the changes of the names that have a card
    pub entered_after : filter later (entries (entered c.last a (entries cards) empty)) ≡ filter (λ (x : Change). is_some (get cards x.1)) (changes_after c.last a)
    entered_after = ap (λ m. filter later (entries m)) entered_are
        ∙ ap (filter later) kept_entries
        ∙ in_turn later has (changes_after c.last a)
        ∙ ap (filter has) (once_more later (entries (by_number c.last)))
