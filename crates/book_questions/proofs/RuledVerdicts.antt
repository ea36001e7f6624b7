-- The decision on a need is a reading of the rulings on every leaf.
use Rattle.book_office_listings.proofs.Common.{◌≡◌, ℕ, zero, suc, ◌+◌, ◌<◌, Bool, true, false, List, [], ◌∷◌, length, slice_get, Option, Some, None, option_map, refl, sym, ap, ◌∙◌, subst, arith, length-map, AllZip, Leaf, CircleOf, bears, Entry, Here, all_leaves, bare_entries, paths_of, EffectiveEntry, Path}
use Rattle.std.proofs.Common.{◌⊎◌, ◌≤◌, ◌&&◌, inl, inr, not, cond, filter, if◌then◌else◌}
use Rattle.std.proofs.lemmas.Bool.{cases_Bool, false≢true, and_parts, and_from, ltb-true, ltb-false, cases_lt}
use Rattle.std.proofs.lemmas.Option.{slice_get_within}
use Rattle.book_rights.specs.Leaves.{place_of, each_leaf}
use Rattle.book_rights.specs.Privileges.{denied_name}
use Rattle.book_lists.specs.Decisions.{denying, Decides, Denies, IsDenial, IsUndecided}
use Rattle.book_lists.proofs.FirstBearings.{one_place, one_decider}
use Rattle.book_lists.proofs.Elements.{Mem}
use Rattle.book_questions.specs.RulingVerdicts.{ungranted, stands_before, earliest, denial_of, RulingsTellTheVerdict}
use Rattle.book_office_listings.specs.Rulings.{IsDecidedBy, IsRuling, AreRulings}
use Rattle.book_office_listings.specs.Scanning.{IsVerdict}
use Rattle.book_office_listings.specs.Verdicts.{deciding_entry, IsGrantedBy}
use Rattle.book_office_listings.specs.declared.messages.DecidingEntry.{DecidingEntry}
use Rattle.book_office_listings.specs.declared.messages.Ruling.{Ruling}
use Rattle.book_office_listings.proofs.Looking.{rulings_grant}

-- ---- one entry stands before another
abbrev before : Option DecidingEntry → Option DecidingEntry → Type 0
before None b = ⊥
before (Some a) None = Unit {0}
before (Some a) (Some b) = a.number < b.number

before_true : (a b : Option DecidingEntry) → stands_before a b ≡ true → before a b
before_true None b e = absurd (false≢true e)
before_true (Some a) None e = tt
before_true (Some a) (Some b) e = ltb-true a.number b.number e

before_false : (a b : Option DecidingEntry) → stands_before a b ≡ false → before a b → ⊥
before_false None b e h = h
before_false (Some a) None e h = false≢true (sym e)
before_false (Some a) (Some b) e h = let le = ltb-false a.number b.number e in omega (arith, le, h)

before_itself : (a : Option DecidingEntry) → before a a → ⊥
before_itself None h = h
before_itself (Some a) h = omega (arith, h)

before_both : (a b c : Option DecidingEntry) → before a b → before b c → before a c
before_both None b c h k = absurd h
before_both (Some a) None c h k = absurd k
before_both (Some a) (Some b) None h k = tt
before_both (Some a) (Some b) (Some c) h k = omega (arith, h, k)

-- what does not come after one that stands before
not_after : (r m b : Option DecidingEntry) → (before r m → ⊥) → before r b → before m b
not_after None m b n h = absurd h
not_after (Some r) None b n h = absurd (n tt)
not_after (Some r) (Some m) None n h = tt
not_after (Some r) (Some m) (Some b) n h = omega (arith, n, h)

-- one that stands before what does not come after
before_not_after : (r m b : Option DecidingEntry) → before r m → (before b m → ⊥) → before r b
before_not_after None m b h n = absurd h
before_not_after (Some r) m None h n = tt
before_not_after (Some r) None (Some b) h n = absurd (n tt)
before_not_after (Some r) (Some m) (Some b) h n = omega (arith, n, h)

-- ---- the earliest of some rulings
abbrev Beats : Ruling → Ruling → Type 0
Beats m r = (before r.entry m.entry → ⊥) × ((before m.entry r.entry → ⊥) → place_of m.leaf ≤ place_of r.leaf)

abbrev InOrder : ℕ → List Ruling → Type 0
InOrder n [] = Unit {0}
InOrder n (r ∷ rs) = (n ≤ place_of r.leaf) × InOrder (place_of r.leaf) rs

in_order_less : (n k : ℕ) (rs : List Ruling) → n ≤ k → InOrder k rs → InOrder n rs
in_order_less n k [] le o = tt
in_order_less n k (r ∷ rs) le o = (let more = o.0 in omega (arith, le, more), o.1)

abbrev Best : Ruling → List Ruling → Type 0
Best b rs = (m : Ruling) × (earliest (Some b) rs ≡ Some m) × Beats m b × ((r : Ruling) → Mem r rs → Beats m r) × ((m ≡ b) ⊎ Mem m rs)

beats_later : (m r b : Ruling) → Beats m r → before r.entry b.entry → Beats m b
beats_later m r b beats h = (
  λ k. beats.0 (before_both r.entry b.entry m.entry h k),
  λ n. absurd (n (not_after r.entry m.entry b.entry beats.0 h)),
)

beats_next : (m b r : Ruling) → Beats m b → (before r.entry b.entry → ⊥) → place_of b.leaf ≤ place_of r.leaf → Beats m r
beats_next m b r beats n le = (
  λ h. n (before_not_after r.entry m.entry b.entry h beats.0),
  λ tie. let first = beats.1 (λ h. tie (before_not_after m.entry b.entry r.entry h n)) in omega (arith, first, le),
)

best : (b : Ruling) (rs : List Ruling) → InOrder (place_of b.leaf) rs → Best b rs
best b [] o = (b, refl, (before_itself b.entry, λ n. omega arith), (λ r at. absurd at), inl refl)
best b (r ∷ rs) o = elim (cases_Bool (stands_before r.entry b.entry)) [
  | inl e ↦
      let m = best r rs o.1 in (
        m.0,
        ap (λ c. earliest (Some (if c then r else b)) rs) e ∙ m.1,
        beats_later m.0 r b m.2 (before_true r.entry b.entry e),
        (λ x at. elim at [ inl is ↦ subst (Beats m.0) (sym is) m.2 | inr later ↦ m.3 x later ]),
        elim m.4 [ inl is ↦ inr (inl is) | inr later ↦ inr (inr later) ],
      )
  | inr e ↦
      let m = best b rs (in_order_less (place_of b.leaf) (place_of r.leaf) rs o.0 o.1) in (
        m.0,
        ap (λ c. earliest (Some (if c then r else b)) rs) e ∙ m.1,
        m.2,
        (λ x at. elim at [ inl is ↦ subst (Beats m.0) (sym is) (beats_next m.0 b r m.2 (before_false r.entry b.entry e) o.0) | inr later ↦ m.3 x later ]),
        elim m.4 [ inl is ↦ inl is | inr later ↦ inr (inr later) ],
      )
]

-- ---- what a filter keeps
kept_by : {A : Type 0} (p : A → Bool) (x : A) (xs : List A) → Mem x (filter p xs) → (Mem x xs) × (p x ≡ true)
kept_by p x [] at = absurd at
kept_by p x (y ∷ ys) at = elim (cases_Bool (p y)) [
  | inl holds ↦ elim (subst (λ b. Mem x (cond b (y ∷ filter p ys) (filter p ys))) holds at) [
    | inl is ↦ (inl is, ap p is ∙ holds)
    | inr later ↦ let rest = kept_by p x ys later in (inr rest.0, rest.1)
  ]
  | inr fails ↦ let rest = kept_by p x ys (subst (λ b. Mem x (cond b (y ∷ filter p ys) (filter p ys))) fails at) in (inr rest.0, rest.1)
]

keeps : {A : Type 0} (p : A → Bool) (x : A) (xs : List A) → Mem x xs → p x ≡ true → Mem x (filter p xs)
keeps p x [] at holds = absurd at
keeps p x (y ∷ ys) at holds = elim at [
  | inl is ↦ subst (λ b. Mem x (cond b (y ∷ filter p ys) (filter p ys))) (sym (sym (ap p is) ∙ holds)) (inl is)
  | inr later ↦ elim (cases_Bool (p y)) [
    | inl there ↦ subst (λ b. Mem x (cond b (y ∷ filter p ys) (filter p ys))) (sym there) (inr (keeps p x ys later holds))
    | inr gone ↦ subst (λ b. Mem x (cond b (y ∷ filter p ys) (filter p ys))) (sym gone) (keeps p x ys later holds)
  ]
]

filter_in_order : (p : Ruling → Bool) (n : ℕ) (rs : List Ruling) → InOrder n rs → InOrder n (filter p rs)
filter_in_order p n [] o = tt
filter_in_order p n (r ∷ rs) o = elim (cases_Bool (p r)) [
  | inl holds ↦ subst (λ b. InOrder n (cond b (r ∷ filter p rs) (filter p rs))) (sym holds) (o.0, filter_in_order p (place_of r.leaf) rs o.1)
  | inr fails ↦ subst (λ b. InOrder n (cond b (r ∷ filter p rs) (filter p rs))) (sym fails) (in_order_less n (place_of r.leaf) (filter p rs) o.0 (filter_in_order p (place_of r.leaf) rs o.1))
]

abbrev LeavesInOrder : ℕ → List Leaf → Type 0
LeavesInOrder n [] = Unit {0}
LeavesInOrder n (l ∷ ls) = (n ≤ place_of l) × LeavesInOrder (place_of l) ls

leaves_in_order : LeavesInOrder 0 all_leaves
leaves_in_order = (omega arith, (omega arith, (omega arith, (omega arith, (omega arith, (omega arith, (omega arith, (omega arith, (omega arith, tt)))))))))

is_leaf : (leaf : Leaf) → Mem leaf all_leaves
is_leaf =
    each_leaf (λ l. Mem l all_leaves) (inl refl) (inr (inl refl)) (inr (inr (inl refl))) (inr (inr (inr (inl refl))))
    (inr (inr (inr (inr (inl refl))))) (inr (inr (inr (inr (inr (inl refl)))))) (inr (inr (inr (inr (inr (inr (inl refl)))))))
    (inr (inr (inr (inr (inr (inr (inr (inl refl)))))))) (inr (inr (inr (inr (inr (inr (inr (inr (inl refl)))))))))

-- ---- rulings of a list
module _ (list : List EffectiveEntry) (circle : CircleOf) (here : Here) where
  abbrev Rules : Leaf → Ruling → Type 0
  Rules = IsRuling list circle here

  ruled : (leaf : Leaf) (ls : List Leaf) (rs : List Ruling) → AllZip Rules ls rs → Mem leaf ls → (r : Ruling) × Mem r rs × Rules leaf r
  ruled leaf [] rs all at = absurd at
  ruled leaf (l ∷ ls) [] all at = absurd all
  ruled leaf (l ∷ ls) (r ∷ rs) all at = elim at [
    | inl is ↦ (r, inl refl, subst (λ x. Rules x r) (sym is) all.0)
    | inr later ↦ let rest = ruled leaf ls rs all.1 later in (rest.0, inr rest.1, rest.2)
  ]

  rules : (r : Ruling) (ls : List Leaf) (rs : List Ruling) → AllZip Rules ls rs → Mem r rs → Rules r.leaf r
  rules r [] rs all at = elim rs as (λ xs. AllZip Rules [] xs → Mem r xs → Rules r.leaf r) [ [] ↦ λ a m. absurd m | ◌∷◌ x xs ↦ λ a m. absurd a ] all at
  rules r (l ∷ ls) [] all at = absurd at
  rules r (l ∷ ls) (x ∷ xs) all at = elim at [
    | inl is ↦ subst (λ y. Rules y.leaf y) (sym is) (subst (λ y. Rules y x) (sym all.0.leaf_is) all.0)
    | inr later ↦ rules r ls xs all.1 later
  ]

  rulings_in_order : (n : ℕ) (ls : List Leaf) (rs : List Ruling) → LeavesInOrder n ls → AllZip Rules ls rs → InOrder n rs
  rulings_in_order n [] [] o all = tt
  rulings_in_order n [] (r ∷ rs) o all = absurd all
  rulings_in_order n (l ∷ ls) [] o all = absurd all
  rulings_in_order n (l ∷ ls) (r ∷ rs) o all =
      let same : place_of r.leaf ≡ place_of l = ap place_of all.0.leaf_is in
      let here_le = o.0 in
      (omega (arith, same, here_le), rulings_in_order (place_of r.leaf) ls rs (subst (λ k. LeavesInOrder k ls) (sym same) o.1) all.1)

  -- the number of an entry that decides
  pub numbered : (i : ℕ) (leaf : Leaf) (entry : Entry) → Decides (bare_entries list) circle here i leaf entry
      → (x : DecidingEntry) × (deciding_entry (paths_of list) (Some i) ≡ Some x) × (x.number ≡ i + 1)
  numbered i leaf entry d = go (slice_get (paths_of list) i) refl
    where
      go : (found : Option Path) → slice_get (paths_of list) i ≡ found → (x : DecidingEntry) × (deciding_entry (paths_of list) (Some i) ≡ Some x) × (x.number ≡ i + 1)
      go None e = absurd (no_place (paths_of list) i (let within = slice_get_within (bare_entries list) i entry d.there in
          let a = length-map list (λ (x : EffectiveEntry). x.entry) in
          let b = length-map list (λ (x : EffectiveEntry). x.path) in omega (arith, within, a, b)) e)
        where
          no_place : (ps : List Path) (j : ℕ) → j < length ps → slice_get ps j ≡ None → ⊥
          no_place [] j lt e = omega (arith, lt)
          no_place (p ∷ ps) zero lt e = absurd cc
          no_place (p ∷ ps) (suc j) lt e = no_place ps j (omega (arith, lt)) e
      go (Some p) e = (record { from = p; number = i + 1 }, ap (option_map (λ (from : Path). record { from = from; number = i + 1 })) e, refl)

  module _ (p : Path) (set : Leaf → Bool) (rulings : List Ruling) (are : AreRulings list circle here rulings) where
    -- a ruling on a needed leaf that does not grant is among those that are compared
    compared : (leaf : Leaf) (r : Ruling) → Mem r rulings → Rules leaf r → set leaf ≡ true → r.grant ≡ false → Mem r (ungranted set rulings)
    compared leaf r at rule wanted refused =
        keeps (λ (x : Ruling). set x.leaf && not x.grant) r rulings at (and_from _ _ (ap set rule.leaf_is ∙ wanted) (ap not refused))

    granted_all : ungranted set rulings ≡ [] → IsGrantedBy list circle here set
    granted_all none leaf wanted =
        let r = ruled leaf all_leaves rulings are (is_leaf leaf) in
        elim (cases_Bool r.0.grant) [
          | inl holds ↦ (rulings_grant list circle here leaf r.0 r.2).0 holds
          | inr fails ↦ absurd (subst (Mem r.0) none (compared leaf r.0 r.1 r.2 wanted fails))
        ]

    -- a denying entry has its ruling among them
    denies_ruled : (j : ℕ) (other : Leaf) → set other ≡ true → Denies (bare_entries list) circle here j other
        → (r : Ruling) × Mem r (ungranted set rulings) × (r.leaf ≡ other) × ((x : DecidingEntry) × (r.entry ≡ Some x) × (x.number ≡ j + 1))
    denies_ruled j other wanted e =
        let r = ruled other all_leaves rulings are (is_leaf other) in
        let told = go r.0 r.2.index r.2.decided in
        let named = numbered j other e.0 e.1 in
        (r.0, compared other r.0 r.1 r.2 wanted told.1, r.2.leaf_is, (named.0, r.2.entry ∙ ap (deciding_entry (paths_of list)) told.0 ∙ named.1, named.2))
      where
        go : (r : Ruling) (index : Option ℕ) → IsDecidedBy list circle here other index r.grant → (index ≡ Some j) × (r.grant ≡ false)
        go r None d = absurd (d.0 j e.0 e.1)
        go r (Some k) d =
            let place : k ≡ j = one_place (bears circle here) denying (bare_entries list) other k j d.0 e.0 d.1 e.1 in
            let same : d.0 ≡ e.0 = one_decider (bears circle here) denying (bare_entries list) other k j d.0 e.0 d.1 e.1 in
            (ap (λ n. Some n) place, d.2 ∙ ap (λ (x : Entry). not x.deny) same ∙ ap not e.2)

    undecided_ruled : (other : Leaf) → set other ≡ true → IsUndecided (bare_entries list) circle here other
        → (r : Ruling) × Mem r (ungranted set rulings) × (r.leaf ≡ other) × (r.entry ≡ None)
    undecided_ruled other wanted gap =
        let r = ruled other all_leaves rulings are (is_leaf other) in
        let told = go r.0 r.2.index r.2.decided in
        (r.0, compared other r.0 r.1 r.2 wanted told.1, r.2.leaf_is, r.2.entry ∙ ap (deciding_entry (paths_of list)) told.0)
      where
        go : (r : Ruling) (index : Option ℕ) → IsDecidedBy list circle here other index r.grant → (index ≡ None) × (r.grant ≡ false)
        go r None d = (refl, d.1)
        go r (Some k) d = absurd (gap k d.0 d.1)

    denied_by : (m : Ruling) → Mem m (ungranted set rulings) → ((r : Ruling) → Mem r (ungranted set rulings) → Beats m r)
        → (index : Option ℕ) → m.entry ≡ deciding_entry (paths_of list) index → IsDecidedBy list circle here m.leaf index m.grant → IsDenial (bare_entries list) circle here set m.leaf index
    denied_by m at beats None named d =
        let kept = kept_by (λ (x : Ruling). set x.leaf && not x.grant) m rulings at in (
          (and_parts (set m.leaf) _ kept.1).0,
          d.0,
          (λ other wanted gap.
              let r = undecided_ruled other wanted gap in
              subst (λ l. place_of m.leaf ≤ place_of l) r.2 ((beats r.0 r.1).1 (subst (λ a. before a r.0.entry → ⊥) (sym named) (λ h. h)))),
          λ j other wanted e.
              let r = denies_ruled j other wanted e in
              (beats r.0 r.1).0 (subst (λ a. before a m.entry) (sym r.3.1) (subst (λ b. before (Some r.3.0) b) (sym named) tt)),
        )
    denied_by m at beats (Some i) named d =
        let kept = kept_by (λ (x : Ruling). set x.leaf && not x.grant) m rulings at in
        let wants = and_parts (set m.leaf) _ kept.1 in
        let mine = numbered i m.leaf d.0 d.1 in
        let entry : m.entry ≡ Some mine.0 = named ∙ mine.1 in (
          wants.0,
          (d.0, d.1, not_granted d.0.deny m.grant d.2 wants.1),
          λ j other wanted e.
              let r = denies_ruled j other wanted e in
              let later : before (Some r.3.0) (Some mine.0) → ⊥ = subst (λ a. before a (Some mine.0) → ⊥) r.3.1 (subst (λ b. before r.0.entry b → ⊥) entry (beats r.0 r.1).0) in
              let tie : (before (Some mine.0) (Some r.3.0) → ⊥) → place_of m.leaf ≤ place_of other = λ n.
              subst (λ l. place_of m.leaf ≤ place_of l) r.2 ((beats r.0 r.1).1 (subst (λ a. before a r.0.entry → ⊥) (sym entry) (subst (λ b. before (Some mine.0) b → ⊥) (sym r.3.1) n))) in
              let a = mine.2 in
              let b = r.3.2 in
              elim (cases_lt i j) [
                | inl lt ↦ inl lt
                | inr le ↦ inr ((omega (arith, le, later, a, b)), tie (λ h. omega (arith, le, h, a, b)))
              ],
        )
      where
        not_granted : (deny grant : Bool) → grant ≡ not deny → not grant ≡ true → deny ≡ true
        not_granted true grant e h = refl
        not_granted false grant e h = absurd (false≢true (ap not (sym e) ∙ h))

    pub told : IsVerdict list circle here p set (denial_of p set rulings)
    told = go (ungranted set rulings) refl
      where
        go : (rs : List Ruling) → ungranted set rulings ≡ rs → IsVerdict list circle here p set (denial_of p set rulings)
        go [] none = subst (λ xs. IsVerdict list circle here p set (option_map (λ (r : Ruling). record { resource = p; privilege = denied_name r.leaf set; entry = r.entry }) (earliest None xs))) (sym none) (granted_all none)
        go (b ∷ rs) some =
            let order = filter_in_order (λ (x : Ruling). set x.leaf && not x.grant) 0 rulings (rulings_in_order 0 all_leaves rulings leaves_in_order are) in
            let ordered : InOrder 0 (b ∷ rs) = subst (InOrder 0) some order in
            let m = best b rs ordered.1 in
            let at : Mem m.0 (ungranted set rulings) = subst (Mem m.0) (sym some) m.4 in
            let beats : (r : Ruling) → Mem r (ungranted set rulings) → Beats m.0 r = λ r in'. elim (subst (Mem r) some in') [ inl is ↦ subst (Beats m.0) (sym is) m.2 | inr later ↦ m.3 r later ] in
            let rule = rules m.0 all_leaves rulings are (kept_by (λ (x : Ruling). set x.leaf && not x.grant) m.0 rulings at).0 in
            subst (λ xs. IsVerdict list circle here p set (option_map (λ (r : Ruling). record { resource = p; privilege = denied_name r.leaf set; entry = r.entry }) (earliest None xs))) (sym some)
            (subst (λ o. IsVerdict list circle here p set (option_map (λ (r : Ruling). record { resource = p; privilege = denied_name r.leaf set; entry = r.entry }) o)) (sym m.1)
            (record {
              leaf = m.0.leaf;
              index = rule.index;
              resource = refl;
              entry = rule.entry;
              privilege = refl;
              decided = denied_by m.0 at beats rule.index rule.entry rule.decided;
            }))

pub rulings_tell : RulingsTellTheVerdict
rulings_tell list circle here p set rulings are = told list circle here p set rulings are
