-- What a scan that keeps deciders knows.
use Rattle.book_lists.proofs.Common.{◌≡◌, ℕ, ◌+◌, ◌-◌, ◌<◌, ◌^◌, ◌⊎◌, inl, inr, ◌↔◌, Bool, true, false, not, ◌&&◌, ◌||◌, List, [], ◌∷◌, ◌++◌, length, Option, Some, None, refl, sym, ap, ◌∙◌, subst, arith, both_ways, false≢true, and_parts, length-append, slice_get_within, Leaf, difference, Reading}
use Rattle.std.proofs.Common.{min, is_none, is_some, option_map, if◌then◌else◌}
use Rattle.std.proofs.lemmas.Bool.{cases_Bool, and_from}
use Rattle.std.specs.Option.{option_map_or}
use Rattle.book_rights.specs.Leaves.{union, IsLeast}
use Rattle.book_lists.specs.Deciding.{DecidesBy, decider}
use Rattle.book_lists.specs.Readings.{bears_read, denying_read, IsAllowedRead, IsDenialRead}
use Rattle.book_lists.specs.Deciders.{told_decider, denied_read, undecided_read, AreDecided, index_in, IsFirstDenied, IsDeciders}
use Rattle.book_lists.specs.declared.deciders.Deciders.{Deciders}
use Rattle.book_lists.proofs.FirstBearings.{denial_more}
use Rattle.book_lists.proofs.FirstFound.{or_else, when, found_or_none, found_decides, decides_found, found_more, found_last}
use Rattle.book_lists.proofs.IdleReadings.{IsShared, reads, Idle}

-- ---- of one leaf
same_on : {A : Type 0} (g : Option A → Bool) (n : Bool) (f h : Option A) → (n ≡ true → h ≡ f) → (n && g h) ≡ (n && g f)
same_on g true f h same = ap g (same refl)
same_on g false f h same = refl

or_false : (b : Bool) → (b || false) ≡ b
or_false true = refl
or_false false = refl

put_open : {A : Type 0} (n s : Bool) (f : Option A) (z : A) → (n && is_none (or_else f (when s z))) ≡ ((n && is_none f) && not s)
put_open false s f z = refl
put_open true true None z = refl
put_open true false None z = refl
put_open true s (Some a) z = refl

put_true : {A : Type 0} (g : A → Bool) (n s : Bool) (f : Option A) (z : A) → g z ≡ true
    → (n && option_map_or g (or_else f (when s z)) false) ≡ ((n && option_map_or g f false) || ((n && is_none f) && s))
put_true g false s f z e = refl
put_true g true true None z e = e
put_true g true false None z e = refl
put_true g true s (Some a) z e = sym (or_false (g a))

put_false : {A : Type 0} (g : A → Bool) (n s : Bool) (f : Option A) (z : A) → g z ≡ false
    → (n && option_map_or g (or_else f (when s z)) false) ≡ (n && option_map_or g f false)
put_false g false s f z e = refl
put_false g true true None z e = e
put_false g true false None z e = refl
put_false g true s (Some a) z e = refl

-- what was found, or the one more
put_found : {A : Type 0} (n s : Bool) (f : Option A) (z a : A) → n ≡ true → or_else f (when s z) ≡ Some a
    → ((f ≡ Some a) × (((n && is_none f) && s) ≡ false)) ⊎ ((z ≡ a) × (((n && is_none f) && s) ≡ true))
put_found false s f z a wanted e = absurd (false≢true wanted)
put_found true s (Some b) z a wanted e = inl (e, refl)
put_found true true None z a wanted e = inr (cc, refl)
put_found true false None z a wanted e = absurd cc

idle_found : {A : Type 0} (n b : Bool) (f : Option A) (z : A) → ((n && is_none f) ≡ true → b ≡ false) → n ≡ true → or_else f (when b z) ≡ f
idle_found n b (Some a) z idle wanted = refl
idle_found n b None z idle wanted = ap (λ c. when c z) (idle (and_from _ _ wanted refl))

chosen_in : (b : Bool) (x y : ℕ) → b ≡ true → (if b then x else y) ≡ x
chosen_in true x y e = refl
chosen_in false x y e = absurd (false≢true e)

chosen_out : (b : Bool) (x y : ℕ) → b ≡ false → (if b then x else y) ≡ y
chosen_out false x y e = refl
chosen_out true x y e = absurd (false≢true (sym e))

module _ (need : Leaf → Bool) (readings : List Reading) (d : Deciders) (s : IsDeciders need readings d) where
  -- ---- more readings that decide nothing
  module _ (more : List Reading) (same : (leaf : Leaf) → need leaf ≡ true → decider bears_read (readings ++ more) leaf ≡ decider bears_read readings leaf) where
    first_stays : (first : Option Leaf) → IsFirstDenied need readings first → IsFirstDenied need (readings ++ more) first
    first_stays None none = λ leaf. same_on (λ f. option_map_or (λ (x : ℕ × Reading). denying_read x.1) f false) (need leaf) _ _ (same leaf) ∙ none leaf
    first_stays (Some leaf) at = (at.0, denial_more bears_read denying_read readings more need leaf at.0 at.1)

    pub stays : (next : Deciders) → next.open ≡ d.open → next.granted ≡ d.granted → next.denied ≡ d.denied → next.first ≡ d.first → next.indexes ≡ d.indexes
        → next.passed ≡ min (length (readings ++ more)) (2 ^ 64 - 1)
        → IsDeciders need (readings ++ more) next
    stays next left grants denies first indexes counted = record {
      left = λ leaf. ap (λ (f : Leaf → Bool). f leaf) left ∙ s.left leaf ∙ sym (same_on (λ f. is_none f) (need leaf) _ _ (same leaf));
      granted = λ leaf. ap (λ (f : Leaf → Bool). f leaf) grants ∙ s.granted leaf
          ∙ sym (same_on (λ f. option_map_or (λ (x : ℕ × Reading). not (denying_read x.1)) f false) (need leaf) _ _ (same leaf));
      denied = λ leaf. ap (λ (f : Leaf → Bool). f leaf) denies ∙ s.denied leaf
          ∙ sym (same_on (λ f. option_map_or (λ (x : ℕ × Reading). denying_read x.1) f false) (need leaf) _ _ (same leaf));
      first = subst (IsFirstDenied need (readings ++ more)) (sym first) (first_stays d.first s.first);
      indexes = λ leaf f wanted e. ap (λ xs. index_in xs leaf) indexes ∙ s.indexes leaf f wanted (sym (same leaf wanted) ∙ e);
      passed = counted;
    }

  -- ---- one reading more
  module _ (r : Reading) where
    counted_more : (passed : ℕ) → passed ≡ min (d.passed + 1) (2 ^ 64 - 1) → passed ≡ min (length (readings ++ r ∷ [])) (2 ^ 64 - 1)
    counted_more passed is =
        let long = length-append readings (r ∷ []) in
        let was = s.passed in
        omega (arith, is, was, long)

    pub look_passed : Idle d.open r → (next : Deciders) → next.open ≡ d.open → next.granted ≡ d.granted → next.denied ≡ d.denied → next.first ≡ d.first
        → next.indexes ≡ d.indexes → next.passed ≡ min (d.passed + 1) (2 ^ 64 - 1) → IsDeciders need (readings ++ r ∷ []) next
    look_passed idle next left grants denies first indexes counted = stays (r ∷ [])
        (λ leaf wanted. found_last bears_read leaf readings r
        ∙ idle_found (need leaf) (bears_read leaf r) (decider bears_read readings leaf) (length readings, r) (λ still. idle leaf (s.left leaf ∙ still)) wanted)
        next left grants denies first indexes (counted_more next.passed counted)

    module _ (shared : Leaf → Bool) (applied : reads r ≡ true) (both : IsShared shared d.open r.entry.set) where
      held : (leaf : Leaf) → bears_read leaf r ≡ r.entry.set leaf
      held leaf = ap (λ b. b && r.entry.set leaf) applied

      now_found : (leaf : Leaf) → decider bears_read (readings ++ r ∷ []) leaf ≡ or_else (decider bears_read readings leaf) (when (r.entry.set leaf) (length readings, r))
      now_found leaf = found_last bears_read leaf readings r ∙ ap (λ b. or_else (decider bears_read readings leaf) (when b (length readings, r))) (held leaf)

      shared_is : (leaf : Leaf) → shared leaf ≡ ((need leaf && is_none (decider bears_read readings leaf)) && r.entry.set leaf)
      shared_is leaf = both leaf ∙ ap (λ b. b && r.entry.set leaf) (s.left leaf)

      module _ (next : Deciders) (left : next.open ≡ difference d.open r.entry.set) (counted : next.passed ≡ min (d.passed + 1) (2 ^ 64 - 1))
          (indexed : (leaf : Leaf) → index_in next.indexes leaf ≡ (if shared leaf then d.passed else index_in d.indexes leaf)) where
        now_open : (leaf : Leaf) → next.open leaf ≡ (need leaf && undecided_read (readings ++ r ∷ []) leaf)
        now_open leaf =
            ap (λ (f : Leaf → Bool). f leaf) left ∙ ap (λ b. b && not (r.entry.set leaf)) (s.left leaf)
            ∙ sym (ap (λ f. need leaf && is_none f) (now_found leaf) ∙ put_open (need leaf) (r.entry.set leaf) (decider bears_read readings leaf) (length readings, r))

        now_indexed : (leaf : Leaf) (f : ℕ × Reading) → need leaf ≡ true → decider bears_read (readings ++ r ∷ []) leaf ≡ Some f → index_in next.indexes leaf ≡ min f.0 (2 ^ 64 - 1)
        now_indexed leaf f wanted e =
            elim (put_found (need leaf) (r.entry.set leaf) (decider bears_read readings leaf) (length readings, r) f wanted (sym (now_found leaf) ∙ e)) [
              | inl old ↦ indexed leaf ∙ chosen_out (shared leaf) d.passed (index_in d.indexes leaf) (shared_is leaf ∙ old.1) ∙ s.indexes leaf f wanted old.0
              | inr new ↦
                  indexed leaf ∙ chosen_in (shared leaf) d.passed (index_in d.indexes leaf) (shared_is leaf ∙ new.1)
                  ∙ s.passed
                  ∙ ap (λ (x : ℕ × Reading). min x.0 (2 ^ 64 - 1)) new.0
            ]

        now_counted : next.passed ≡ min (length (readings ++ r ∷ [])) (2 ^ 64 - 1)
        now_counted = counted_more next.passed counted

        unshared_denied : r.entry.deny ≡ false → (leaf : Leaf) → (need leaf && denied_read (readings ++ r ∷ []) leaf) ≡ (need leaf && denied_read readings leaf)
        unshared_denied grants leaf =
            ap (λ f. need leaf && option_map_or (λ (x : ℕ × Reading). denying_read x.1) f false) (now_found leaf)
            ∙ put_false (λ (x : ℕ × Reading). denying_read x.1) (need leaf) (r.entry.set leaf) (decider bears_read readings leaf) (length readings, r) grants

        first_unless : r.entry.deny ≡ false → (first : Option Leaf) → IsFirstDenied need readings first → IsFirstDenied need (readings ++ r ∷ []) first
        first_unless grants None none = λ leaf. unshared_denied grants leaf ∙ none leaf
        first_unless grants (Some leaf) at = (at.0, denial_more bears_read denying_read readings (r ∷ []) need leaf at.0 at.1)

        pub look_granted : r.entry.deny ≡ false → next.granted ≡ union d.granted shared → next.denied ≡ d.denied → next.first ≡ d.first → IsDeciders need (readings ++ r ∷ []) next
        look_granted grants more denies first = record {
          left = now_open;
          granted = λ leaf.
              ap (λ (f : Leaf → Bool). f leaf) more
              ∙ (λ k. s.granted leaf k || shared_is leaf k)
              ∙ sym (ap (λ f. need leaf && option_map_or (λ (x : ℕ × Reading). not (denying_read x.1)) f false) (now_found leaf)
              ∙ put_true (λ (x : ℕ × Reading). not (denying_read x.1)) (need leaf) (r.entry.set leaf) (decider bears_read readings leaf) (length readings, r) (ap not grants));
          denied = λ leaf. ap (λ (f : Leaf → Bool). f leaf) denies ∙ s.denied leaf ∙ sym (unshared_denied grants leaf);
          first = subst (IsFirstDenied need (readings ++ r ∷ [])) (sym first) (first_unless grants d.first s.first);
          indexes = now_indexed;
          passed = now_counted;
        }

        pub look_denied : r.entry.deny ≡ true → next.denied ≡ union d.denied shared → next.granted ≡ d.granted → IsFirstDenied need (readings ++ r ∷ []) next.first
            → IsDeciders need (readings ++ r ∷ []) next
        look_denied denies more grants first = record {
          left = now_open;
          granted = λ leaf.
              ap (λ (f : Leaf → Bool). f leaf) grants ∙ s.granted leaf
              ∙ sym (ap (λ f. need leaf && option_map_or (λ (x : ℕ × Reading). not (denying_read x.1)) f false) (now_found leaf)
              ∙ put_false (λ (x : ℕ × Reading). not (denying_read x.1)) (need leaf) (r.entry.set leaf) (decider bears_read readings leaf) (length readings, r) (ap not denies));
          denied = λ leaf.
              ap (λ (f : Leaf → Bool). f leaf) more
              ∙ (λ k. s.denied leaf k || shared_is leaf k)
              ∙ sym (ap (λ f. need leaf && option_map_or (λ (x : ℕ × Reading). denying_read x.1) f false) (now_found leaf)
              ∙ put_true (λ (x : ℕ × Reading). denying_read x.1) (need leaf) (r.entry.set leaf) (decider bears_read readings leaf) (length readings, r) denies);
          first = first;
          indexes = now_indexed;
          passed = now_counted;
        }

      -- the first denial that the scan meets is the earliest
      pub denied_first : r.entry.deny ≡ true → d.first ≡ None → (leaf : Leaf) → IsLeast shared (Some leaf) → IsFirstDenied need (readings ++ r ∷ []) (Some leaf)
      denied_first denies none leaf least =
          let here = and_parts (need leaf && is_none (decider bears_read readings leaf)) (r.entry.set leaf) (sym (shared_is leaf) ∙ least.0) in
          let wanted = and_parts (need leaf) _ here.0 in (
            length readings,
            (
              wanted.0,
              (r, found_decides bears_read leaf (readings ++ r ∷ []) (length readings) r (now_found leaf ∙ newly (decider bears_read readings leaf) (r.entry.set leaf) wanted.1 here.1), denies),
              λ j other need_other e.
                  let at = decides_found bears_read other (readings ++ r ∷ []) j e.0 e.1 in
                  elim (put_found (need other) (r.entry.set other) (decider bears_read readings other) (length readings, r) (j, e.0) need_other (sym (now_found other) ∙ at)) [
                    | inl old ↦ absurd (both_ways _
                        (none_before other)
                        (and_from _ _ need_other (ap (λ f. option_map_or (λ (x : ℕ × Reading). denying_read x.1) f false) old.0 ∙ e.2)))
                    | inr new ↦ inr (ap (λ (x : ℕ × Reading). x.0) new.0, least.1 other (shared_is other ∙ new.1))
                  ],
            ),
          )
        where
          newly : (f : Option (ℕ × Reading)) (b : Bool) → is_none f ≡ true → b ≡ true → or_else f (when b (length readings, r)) ≡ Some (length readings, r)
          newly None true e h = refl
          newly None false e h = absurd (false≢true h)
          newly (Some a) b e h = absurd (false≢true e)

          none_before : (other : Leaf) → (need other && denied_read readings other) ≡ false
          none_before = let first : IsFirstDenied need readings None = subst (IsFirstDenied need readings) none s.first in first

      -- and stays so
      pub denied_later : (first : Option Leaf) → is_some first ≡ true → IsFirstDenied need readings first → IsFirstDenied need (readings ++ r ∷ []) first
      denied_later None there at = absurd (false≢true there)
      denied_later (Some leaf) there at = (at.0, denial_more bears_read denying_read readings (r ∷ []) need leaf at.0 at.1)

  -- ---- at the end
  -- where no leaf is left, each is decided
  pub all_decided : ((leaf : Leaf) → d.open leaf ≡ false) ↔ AreDecided need readings
  all_decided = (
    λ shut leaf wanted. needed (need leaf) _ wanted (sym (s.left leaf) ∙ shut leaf),
    λ decided leaf. s.left leaf ∙ unneeded (need leaf) _ (decided leaf),
  )
    where
      needed : (n u : Bool) → n ≡ true → (n && u) ≡ false → u ≡ false
      needed true u wanted e = e
      needed false u wanted e = absurd (false≢true wanted)

      unneeded : (n u : Bool) → (n ≡ true → u ≡ false) → (n && u) ≡ false
      unneeded true u e = e refl
      unneeded false u e = refl

  -- no later reading changes that
  pub decided_more : ((leaf : Leaf) → d.open leaf ≡ false) → (more : List Reading) (next : Deciders) → next.open ≡ d.open → next.granted ≡ d.granted → next.denied ≡ d.denied
      → next.first ≡ d.first → next.indexes ≡ d.indexes → next.passed ≡ min (length (readings ++ more)) (2 ^ 64 - 1) → IsDeciders need (readings ++ more) next
  decided_more shut more = stays more
      (λ leaf wanted. elim (found_or_none bears_read leaf readings) [
        | inl f ↦ found_more bears_read leaf readings more (f.0, f.1) f.2 ∙ sym f.2
        | inr none ↦ absurd (both_ways _ (all_decided.0 shut leaf wanted) (ap is_none none.0))
      ])

  -- ---- what the scan answers
  exact : (leaf : Leaf) (i : ℕ) (r : Reading) → need leaf ≡ true → length readings < 2 ^ 64 → decider bears_read readings leaf ≡ Some (i, r) → index_in d.indexes leaf ≡ i
  exact leaf i r wanted few e =
      let kept = s.indexes leaf (i, r) wanted e in
      let within = slice_get_within readings i r (found_decides bears_read leaf readings i r e).there in
      omega (arith, kept, within, few)

  pub told_grant : (leaf : Leaf) (i : ℕ) → i ≡ index_in d.indexes leaf → need leaf ≡ true → length readings < 2 ^ 64 → d.granted leaf ≡ true → Some (record { index = i; deny = false }) ≡ told_decider readings leaf
  told_grant leaf i is wanted few grants = elim (found_or_none bears_read leaf readings) [
    | inl f ↦
        let grant = and_parts (need leaf) _ (sym (s.granted leaf) ∙ grants) in
        let same : i ≡ f.0 = is ∙ exact leaf f.0 f.1 wanted few f.2 in
        let denies : denying_read f.1 ≡ false = not_true _ (sym (ap (λ o. option_map_or (λ (x : ℕ × Reading). not (denying_read x.1)) o false) f.2) ∙ grant.1) in
        (λ k. Some (record { index = same k; deny = sym denies k })) ∙ sym (ap (λ o. option_map (λ (x : ℕ × Reading). record { index = x.0; deny = denying_read x.1 }) o) f.2)
    | inr none ↦ absurd (false≢true (sym (ap (λ o. option_map_or (λ (x : ℕ × Reading). not (denying_read x.1)) o false) none.0) ∙ (and_parts (need leaf) _ (sym (s.granted leaf) ∙ grants)).1))
  ]
    where
      not_true : (b : Bool) → not b ≡ true → b ≡ false
      not_true false e = refl
      not_true true e = absurd (false≢true e)

  pub told_denial : (leaf : Leaf) (i : ℕ) → i ≡ index_in d.indexes leaf → need leaf ≡ true → length readings < 2 ^ 64 → d.denied leaf ≡ true → Some (record { index = i; deny = true }) ≡ told_decider readings leaf
  told_denial leaf i is wanted few denies = elim (found_or_none bears_read leaf readings) [
    | inl f ↦
        let denial = and_parts (need leaf) _ (sym (s.denied leaf) ∙ denies) in
        let same : i ≡ f.0 = is ∙ exact leaf f.0 f.1 wanted few f.2 in
        let holds : denying_read f.1 ≡ true = sym (ap (λ o. option_map_or (λ (x : ℕ × Reading). denying_read x.1) o false) f.2) ∙ denial.1 in
        (λ k. Some (record { index = same k; deny = sym holds k })) ∙ sym (ap (λ o. option_map (λ (x : ℕ × Reading). record { index = x.0; deny = denying_read x.1 }) o) f.2)
    | inr none ↦ absurd (false≢true (sym (ap (λ o. option_map_or (λ (x : ℕ × Reading). denying_read x.1) o false) none.0) ∙ (and_parts (need leaf) _ (sym (s.denied leaf) ∙ denies)).1))
  ]

  pub outcome_denied : (leaf : Leaf) (i : ℕ) → d.first ≡ Some leaf → i ≡ index_in d.indexes leaf → length readings < 2 ^ 64 → IsDenialRead readings need leaf (Some i)
  outcome_denied leaf i is index few =
      let at : IsFirstDenied need readings (Some leaf) = subst (IsFirstDenied need readings) is s.first in
      let e = at.1.1 in
      let same : i ≡ at.0 = index ∙ exact leaf at.0 e.0 at.1.0 few (decides_found bears_read leaf readings at.0 e.0 e.1) in
      subst (λ j. IsDenialRead readings need leaf (Some j)) (sym same) at.1

  pub none_denied : d.first ≡ None → (leaf : Leaf) → (need leaf && denied_read readings leaf) ≡ false
  none_denied none = let first : IsFirstDenied need readings None = subst (IsFirstDenied need readings) none s.first in first

  open_parts : (leaf : Leaf) → d.open leaf ≡ true → (need leaf ≡ true) × (is_none (decider bears_read readings leaf) ≡ true)
  open_parts leaf still = and_parts (need leaf) _ (sym (s.left leaf) ∙ still)

  -- nothing decides a leaf that is left
  left_undecided : (leaf : Leaf) → d.open leaf ≡ true → (i : ℕ) (r : Reading) → DecidesBy bears_read readings i leaf r → ⊥
  left_undecided leaf still i r e = false≢true (sym (ap is_none (decides_found bears_read leaf readings i r e)) ∙ (open_parts leaf still).1)

  pub left_unallowed : (leaf : Leaf) → d.open leaf ≡ true → IsAllowedRead readings need → ⊥
  left_unallowed leaf still all = let g = all leaf (open_parts leaf still).0 in left_undecided leaf still g.0 g.1 g.2

  pub outcome_undecided : d.first ≡ None → (leaf : Leaf) → IsLeast d.open (Some leaf) → IsDenialRead readings need leaf None
  outcome_undecided none leaf least = (
    (open_parts leaf least.0).0,
    left_undecided leaf least.0,
    (λ other wanted gap. elim (found_or_none bears_read other readings) [
      | inl f ↦ absurd (gap f.0 f.1 f.3)
      | inr unfound ↦ least.1 other (s.left other ∙ and_from _ _ wanted (ap is_none unfound.0))
    ]),
    λ j other wanted e. both_ways _ (none_denied none other)
        (and_from _ _ wanted (ap (λ o. option_map_or (λ (x : ℕ × Reading). denying_read x.1) o false) (decides_found bears_read other readings j e.0 e.1) ∙ e.2)),
  )

  pub outcome_allowed : d.first ≡ None → ((leaf : Leaf) → d.open leaf ≡ false) → IsAllowedRead readings need
  outcome_allowed none shut leaf wanted = elim (found_or_none bears_read leaf readings) [
    | inl f ↦ elim (cases_Bool (denying_read f.1)) [
      | inl denies ↦ absurd (both_ways _ (none_denied none leaf) (and_from _ _ wanted (ap (λ o. option_map_or (λ (x : ℕ × Reading). denying_read x.1) o false) f.2 ∙ denies)))
      | inr grants ↦ (f.0, f.1, f.3, grants)
    ]
    | inr unfound ↦ absurd (both_ways _ (all_decided.0 shut leaf wanted) (ap is_none unfound.0))
  ]

  pub counted : d.passed < 2 ^ 64 - 1 → length readings < 2 ^ 64
  counted few = let was = s.passed in omega (arith, few, was)
