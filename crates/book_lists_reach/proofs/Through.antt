-- The closure of rows: each place in turn is gone through, so that a row that has it has all that its row has.
use Rattle.std.proofs.Common.{◌≡◌, ℕ, ◌+◌, ◌<◌, ◌≤◌, ◌⊎◌, inl, inr, ◌≢◌, ◌%◌, ◌&&◌, ◌||◌, nat_eq, Bool, true, false, List, [], ◌∷◌, ◌++◌, length, get_or, set, Some, refl, sym, ap, subst, ◌∙◌, arith, slice_get}
use Rattle.std.proofs.lemmas.Bool.{false≢true, and_parts, and_from, or_cases, or_left, or_right, cases_lt, false_from_ne_true}
use Rattle.std.proofs.Math.ListN.{get_or-eq_default}
use Rattle.std.proofs.lemmas.Bool.Decides.{eqb_tells}
use Rattle.std.proofs.lemmas.Nat.Bits.{bit_at-zero}
use Rattle.std.proofs.lemmas.Option.{slice_get_within, slice_get-get_or}
use Rattle.std.specs.List.Sorted.{IsStrictlySortedBy}
use Rattle.book_lists.specs.Memberships.{Memberships, IsDirect, Descends, Chain, IsReachOf}
use Rattle.book_lists.specs.Principals.{path_cmp}
use Rattle.book_lists_reach.specs.Bits.{bit}
use Rattle.book_lists_reach.specs.Pairs.{has_bit, pairs_in_rows}
use Rattle.book_lists_reach.proofs.RowPairs.{at_row, told, tell, one_place}

-- ---- chains joined

descends_joined : (pairs : Memberships) (q : List ℕ) (xs : List (List ℕ)) (mid : List ℕ) (ys : List (List ℕ)) (p : List ℕ) → Descends pairs q xs mid → Descends pairs mid ys p → Descends pairs q (xs ++ ys) p
descends_joined pairs q [] mid ys p same d = subst (λ g. Descends pairs g ys p) (sym same) d
descends_joined pairs q (x ∷ xs) mid ys p first d = (first.0, descends_joined pairs x xs mid ys p first.1 d)

chains_joined : (pairs : Memberships) (g c p : List ℕ) → Chain pairs c g → Chain pairs p c → Chain pairs p g
chains_joined pairs g c p first second =
    (first.0, first.1 ++ second.0 ∷ second.1, (first.2.0, descends_joined pairs first.0 first.1 c (second.0 ∷ second.1) p first.2.1 second.2))

one_pair : (pairs : Memberships) (g p : List ℕ) → IsDirect pairs g p → Chain pairs p g
one_pair pairs g p direct = (p, [], (direct, refl))

-- ---- one place

-- where the row at k is taken over by each row that has k
abbrev pub TakesOver : ℕ → List (List ℕ) → List (List ℕ) → Type 0
TakesOver k old new = (i j : ℕ) → has_bit new i j ≡ (has_bit old i j || (has_bit old i k && has_bit old k j))

-- the rows so far: no direct pair is lost, a chain leads to each that they have, and the places below k are gone through
pub record Closes (ps direct : List (List ℕ)) (k : ℕ) (rows : List (List ℕ)) : Type 0 where
  pub kept : (i j : ℕ) → has_bit direct i j ≡ true → has_bit rows i j ≡ true
  pub sound : (i j : ℕ) (g p : List ℕ) → slice_get ps i ≡ Some g → slice_get ps j ≡ Some p → has_bit rows i j ≡ true → Chain (pairs_in_rows ps direct) p g
  pub through : (m i j : ℕ) → m < k → has_bit rows i m ≡ true → has_bit rows m j ≡ true → has_bit rows i j ≡ true

-- the bit was there, or comes by k
abbrev Was : ℕ → List (List ℕ) → ℕ → ℕ → Type 0
Was k old i j = (has_bit old i j ≡ true) ⊎ ((has_bit old i k ≡ true) × (has_bit old k j ≡ true))

pub closes_none : (ps direct : List (List ℕ)) → Closes ps direct 0 direct
closes_none ps direct = record {
  kept = λ i j is. is;
  sound = λ i j g p ig jp is. one_pair (pairs_in_rows ps direct) g p (tell ps (has_bit direct) i j (record { group = g; member = p }) ig jp is);
  through = λ m i j below. absurd (omega arith);
}

pub closes_more : (ps direct : List (List ℕ)) (k : ℕ) (old new : List (List ℕ)) → k < length ps → TakesOver k old new → Closes ps direct k old → Closes ps direct (k + 1) new
closes_more ps direct k old new within takes c = record {
  kept = λ i j is. still i j (c.kept i j is);
  sound = λ i j g p ig jp is. sound_at i j g p ig jp (either i j is);
  through = λ m i j below im mj. through_at m i j (cases_lt m k) below (either i m im) (either m j mj);
}
  where
    still : (i j : ℕ) → has_bit old i j ≡ true → has_bit new i j ≡ true
    still i j is = takes i j ∙ or_left (has_bit old i j) _ is

    by_k : (i j : ℕ) → has_bit old i k ≡ true → has_bit old k j ≡ true → has_bit new i j ≡ true
    by_k i j ik kj = takes i j ∙ or_right (has_bit old i j) _ (and_from (has_bit old i k) (has_bit old k j) ik kj)

    either : (i j : ℕ) → has_bit new i j ≡ true → Was k old i j
    either i j is = elim (or_cases (has_bit old i j) (has_bit old i k && has_bit old k j) (sym (takes i j) ∙ is)) [
      | inl was ↦ inl was
      | inr by ↦ inr (and_parts (has_bit old i k) (has_bit old k j) by)
    ]

    sound_at : (i j : ℕ) (g p : List ℕ) → slice_get ps i ≡ Some g → slice_get ps j ≡ Some p → Was k old i j → Chain (pairs_in_rows ps direct) p g
    sound_at i j g p ig jp (inl was) = c.sound i j g p ig jp was
    sound_at i j g p ig jp (inr by) =
        let at : slice_get ps k ≡ Some (get_or ps k []) = slice_get-get_or ps k [] within in
        chains_joined (pairs_in_rows ps direct) g (get_or ps k []) p (c.sound i k g (get_or ps k []) ig at by.0) (c.sound k j (get_or ps k []) p at jp by.1)

    -- what leads to k, and what k leads to
    to_k : (i : ℕ) → Was k old i k → has_bit old i k ≡ true
    to_k i (inl was) = was
    to_k i (inr by) = by.0

    from_k : (j : ℕ) → Was k old k j → has_bit old k j ≡ true
    from_k j (inl was) = was
    from_k j (inr by) = by.1

    through_at : (m i j : ℕ) → (m < k) ⊎ (k ≤ m) → m < k + 1 → Was k old i m → Was k old m j → has_bit new i j ≡ true
    through_at m i j (inl below) l (inl im) (inl mj) = still i j (c.through m i j below im mj)
    through_at m i j (inl below) l (inl im) (inr mj) = by_k i j (c.through m i k below im mj.0) mj.1
    through_at m i j (inl below) l (inr im) (inl mj) = by_k i j im.0 (c.through m k j below im.1 mj)
    through_at m i j (inl below) l (inr im) (inr mj) = by_k i j im.0 mj.1
    through_at m i j (inr least) l im mj =
        let is : m ≡ k = omega arith in
        by_k i j (to_k i (subst (Was k old i) is im)) (from_k j (subst (λ x. Was k old x j) is mj))

-- ---- all places

pub closes_all : (ps direct rows : List (List ℕ)) (k : ℕ) → IsStrictlySortedBy path_cmp ps → length ps ≤ k → Closes ps direct k rows → IsReachOf (pairs_in_rows ps direct) (pairs_in_rows ps rows)
closes_all ps direct rows k sorted all c g p = (
  λ has. let r = told ps (has_bit rows) (record { group = g; member = p }) has in c.sound r.0 r.1 g p r.2 r.3 r.4,
  λ chain. down g chain.0 chain.1 chain.2,
)
  where
    pairs : Memberships
    pairs = pairs_in_rows ps direct

    down : (q m : List ℕ) (ms : List (List ℕ)) → Descends (pairs_in_rows ps direct) q (m ∷ ms) p → IsDirect (pairs_in_rows ps rows) q p
    down q m [] d =
        let r = told ps (has_bit direct) (record { group = q; member = m }) d.0 in
        tell ps (has_bit rows) r.0 r.1 (record { group = q; member = p }) r.2 (subst (λ x. slice_get ps r.1 ≡ Some x) d.1 r.3) (c.kept r.0 r.1 r.4)
    down q m (n ∷ ms) d =
        let r = told ps (has_bit direct) (record { group = q; member = m }) d.0 in
        let s = told ps (has_bit rows) (record { group = m; member = p }) (down m n ms d.1) in
        let same : s.0 ≡ r.1 = one_place ps sorted s.0 r.1 m s.2 r.3 in
        tell ps (has_bit rows) r.0 s.1 (record { group = q; member = p }) r.2 s.3
        (c.through r.1 r.0 s.1 (omega (arith, all, slice_get_within ps r.1 m r.3)) (c.kept r.0 r.1 r.4) (subst (λ x. has_bit rows x s.1 ≡ true) same s.4))

-- ---- one row after another

-- the rows below n have taken over the row at k, the others are as they were
pub record TakenBelow (n k : ℕ) (old new : List (List ℕ)) : Type 0 where
  pub below : (i j : ℕ) → i < n → has_bit new i j ≡ (has_bit old i j || (has_bit old i k && has_bit old k j))
  pub above : (i j : ℕ) → n ≤ i → has_bit new i j ≡ has_bit old i j

pub taken_none : (k : ℕ) (rows : List (List ℕ)) → TakenBelow 0 k rows rows
taken_none k rows = record {
  below = λ i j l. absurd (omega arith);
  above = λ i j l. refl;
}

-- the next row takes it over
pub taken_more : (n k : ℕ) (old rows : List (List ℕ)) (row : List ℕ) → n < length rows
    → ((j : ℕ) → bit row j ≡ (bit (get_or rows n []) j || (bit (get_or rows n []) k && has_bit old k j))) → TakenBelow n k old rows → TakenBelow (n + 1) k old (set rows n row)
taken_more n k old rows row within takes t = record {
  below = λ i j l. at i j l (at_row rows n row within i j);
  above = λ i j l. elim (at_row rows n row within i j) [
    | inl here ↦ let same = here.0 in absurd (omega arith)
    | inr other ↦ other.1 ∙ t.above i j (omega arith)
  ];
}
  where
    at : (i j : ℕ) → i < n + 1 → ((i ≡ n) × (has_bit (set rows n row) i j ≡ bit row j)) ⊎ ((nat_eq i n ≡ false) × (has_bit (set rows n row) i j ≡ has_bit rows i j))
        → has_bit (set rows n row) i j ≡ (has_bit old i j || (has_bit old i k && has_bit old k j))
    at i j l (inl here) =
        here.1 ∙ takes j ∙ (λ x. t.above n j (omega arith) x || (t.above n k (omega arith) x && has_bit old k j))
        ∙ ap (λ a. has_bit old a j || (has_bit old a k && has_bit old k j)) (sym here.0)
    at i j l (inr other) = other.1 ∙ t.below i j (before (cases_lt i n) (eqb_tells i n))
      where
        before : (i < n) ⊎ (n ≤ i) → ((nat_eq i n ≡ true) × (i ≡ n)) ⊎ ((nat_eq i n ≡ false) × (i ≢ n)) → i < n
        before (inl less) e = less
        before (inr least) (inl same) = absurd (false≢true (sym other.0 ∙ same.0))
        before (inr least) (inr apart) = let a = apart.1 in omega arith

-- a row without words gives nothing
pub taken_bare : (k : ℕ) (rows : List (List ℕ)) → get_or rows k [] ≡ [] → TakesOver k rows rows
taken_bare k rows bare i j = or_false (has_bit rows i j) ∙ ap (λ b. has_bit rows i j || b) (sym (and_false (has_bit rows i k)) ∙ ap (λ b. has_bit rows i k && b) (sym none))
  where
    or_false : (b : Bool) → b ≡ (b || false)
    or_false true = refl
    or_false false = refl

    and_false : (b : Bool) → (b && false) ≡ false
    and_false true = refl
    and_false false = refl

    none : has_bit rows k j ≡ false
    none = ap (λ r. bit r j) bare ∙ ap (λ b. nat_eq b 1) (bit_at-zero (j % 64))

pub taken_all : (n k : ℕ) (old new : List (List ℕ)) → length old ≤ n → TakenBelow n k old new → TakesOver k old new
taken_all n k old new all t i j = at (cases_lt i n)
  where
    or_false : (b : Bool) → b ≡ (b || false)
    or_false true = refl
    or_false false = refl

    no_bit : (x : ℕ) → bit [] x ≡ false
    no_bit x = ap (λ b. nat_eq b 1) (bit_at-zero (x % 64))

    at : (i < n) ⊎ (n ≤ i) → has_bit new i j ≡ (has_bit old i j || (has_bit old i k && has_bit old k j))
    at (inl below) = t.below i j below
    at (inr above) =
        let none : has_bit old i k ≡ false = ap (λ r. bit r k) (get_or-eq_default old [] (omega arith)) ∙ no_bit k in
        t.above i j above ∙ or_false (has_bit old i j) ∙ ap (λ b. has_bit old i j || (b && has_bit old k j)) (sym none)

-- ---- the numbers of all rows

-- each number that some row has is one of these
abbrev pub HasNumbers : List (List ℕ) → List ℕ → Type 0
HasNumbers rows numbers = (i j : ℕ) → has_bit rows i j ≡ true → bit numbers j ≡ true

-- and those of the rows below n
abbrev pub HasNumbersBelow : ℕ → List (List ℕ) → List ℕ → Type 0
HasNumbersBelow n rows numbers = (i j : ℕ) → i < n → has_bit rows i j ≡ true → bit numbers j ≡ true

pub numbers_more : (n : ℕ) (rows : List (List ℕ)) (row numbers more : List ℕ) → get_or rows n [] ≡ row → ((j : ℕ) → bit more j ≡ (bit numbers j || bit row j)) → HasNumbersBelow n rows numbers → HasNumbersBelow (n + 1) rows more
numbers_more n rows row numbers more is added has i j l there = elim (cases_lt i n) [
  | inl below ↦ added j ∙ or_left (bit numbers j) (bit row j) (has i j below there)
  | inr last ↦ let same : i ≡ n = omega arith in added j ∙ or_right (bit numbers j) (bit row j) (ap (λ r. bit r j) (sym is) ∙ ap (λ a. has_bit rows a j) (sym same) ∙ there)
]

pub numbers_all : (n : ℕ) (rows : List (List ℕ)) (numbers : List ℕ) → length rows ≤ n → HasNumbersBelow n rows numbers → HasNumbers rows numbers
numbers_all n rows numbers all has i j there = elim (cases_lt i n) [
  | inl below ↦ has i j below there
  | inr past ↦ absurd (false≢true (sym (ap (λ r. bit r j) (get_or-eq_default rows [] (omega arith)) ∙ ap (λ b. nat_eq b 1) (bit_at-zero (j % 64))) ∙ there))
]

-- no row gets one that none had
pub numbers_kept : (k : ℕ) (old new : List (List ℕ)) (numbers : List ℕ) → TakesOver k old new → HasNumbers old numbers → HasNumbers new numbers
numbers_kept k old new numbers takes has i j there = elim (or_cases (has_bit old i j) (has_bit old i k && has_bit old k j) (sym (takes i j) ∙ there)) [
  | inl was ↦ has i j was
  | inr by ↦ has k j (and_parts (has_bit old i k) (has_bit old k j) by).1
]

-- where no row has the number there is nothing to take over
pub taken_nowhere : (k : ℕ) (rows : List (List ℕ)) (numbers : List ℕ) → HasNumbers rows numbers → bit numbers k ≡ false → TakesOver k rows rows
taken_nowhere k rows numbers has none i j = or_false (has_bit rows i j) ∙ ap (λ b. has_bit rows i j || (b && has_bit rows k j)) (sym never)
  where
    or_false : (b : Bool) → b ≡ (b || false)
    or_false true = refl
    or_false false = refl

    never : has_bit rows i k ≡ false
    never = false_from_ne_true (has_bit rows i k) (λ is. false≢true (sym none ∙ has i k is))
