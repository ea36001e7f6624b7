-- Which pairs rows of bits have.
use Rattle.std.proofs.Common.{◌≡◌, ℕ, zero, suc, ◌<◌, ◌≤◌, ◌⊎◌, inl, inr, ◌&&◌, ◌||◌, Bool, true, false, cond, List, [], ◌∷◌, ◌++◌, map, length, get_or, set, Some, refl, sym, ap, subst, ◌∙◌, arith, slice_get, nat_eq}
use Rattle.std.specs.Cmp.{both_ways}
use Rattle.std.proofs.lemmas.Bool.{false≢true, and_parts, and_from, or_cases, or_left, or_right, cases_lt, false_from_ne_true}
use Rattle.std.proofs.lemmas.Bool.Decides.{eqb_tells}
use Rattle.std.proofs.lemmas.List.{get_or-set_same, get_or-set_other}
use Rattle.std.proofs.lemmas.Map.Keys.{Less-from_sorted}
use Rattle.std.proofs.lemmas.Map.Text.{is_eq-slice_cmp}
use Rattle.std.proofs.lemmas.Option.{get_or_from_slice_get, slice_get_within, same_Some}
use Rattle.std.specs.FinSet as set
use Rattle.std.specs.List.Sorted.{IsStrictlySortedBy}
use Rattle.std.specs.Ordering.{eq_by_cmp, is_eq}
use Rattle.std.specs.declared.cmp.Ordering.TheVariants.{Less}
use Rattle.std.specs.Str.{bytes_eq}
use Rattle.book_lists.specs.Circles.{has_path}
use Rattle.book_lists.specs.Memberships.{Memberships, membership_cmp, set_of}
use Rattle.book_lists.specs.Principals.{path_cmp}
use Rattle.book_lists.specs.declared.memberships.Membership.{Membership}
use Rattle.book_lists.proofs.Elements.{Mem}
use Rattle.book_lists.proofs.Pairing.{memberships_total, memberships_exact, path_itself, same_membership, same_path}
use Rattle.book_lists_reach.specs.Bits.{bit}
use Rattle.book_lists_reach.specs.Numbering.{is_listed}
use Rattle.book_lists_reach.specs.Pairs.{chosen, pairs_by, has_bit, pairs_in_rows}

-- within a list the default does not matter
pub any_default : {A : Type 0} (xs : List A) (i : ℕ) (d e : A) → i < length xs → get_or xs i d ≡ get_or xs i e
any_default [] i d e l = absurd (omega arith)
any_default (x ∷ xs) zero d e l = refl
any_default (x ∷ xs) (suc i) d e l = any_default xs i d e (omega arith)

-- ---- lists of pairs

pub same_pair : (m e : Membership) → eq_by_cmp membership_cmp m e ≡ true → m ≡ e
same_pair m e same =
    let both = and_parts (bytes_eq e.group m.group) (bytes_eq e.member m.member) (sym (same_membership e m) ∙ same) in
    let g : e.group ≡ m.group = same_path _ _ both.0 in
    let p : e.member ≡ m.member = same_path _ _ both.1 in
    λ i. record { group = sym g i; member = sym p i }

pub pair_itself : (m : Membership) → eq_by_cmp membership_cmp m m ≡ true
pair_itself m = same_membership m m ∙ and_from (bytes_eq m.group m.group) (bytes_eq m.member m.member) (path_itself m.group) (path_itself m.member)

pub mem_listed : (list : List Membership) (m : Membership) → is_listed list m ≡ true → Mem m list
mem_listed [] m is = absurd (false≢true is)
mem_listed (e ∷ es) m is = elim (or_cases (eq_by_cmp membership_cmp m e) (is_listed es m) is) [
  | inl same ↦ inl (same_pair m e same)
  | inr later ↦ inr (mem_listed es m later)
]

pub listed_mem : (list : List Membership) (m : Membership) → Mem m list → is_listed list m ≡ true
listed_mem [] m is = absurd is
listed_mem (e ∷ es) m (inl same) = or_left (eq_by_cmp membership_cmp m e) (is_listed es m) (ap (eq_by_cmp membership_cmp m) (sym same) ∙ pair_itself m)
listed_mem (e ∷ es) m (inr later) = or_right (eq_by_cmp membership_cmp m e) (is_listed es m) (listed_mem es m later)

mem_front : {A : Type 0} (x : A) (xs ys : List A) → Mem x xs → Mem x (xs ++ ys)
mem_front x [] ys m = absurd m
mem_front x (z ∷ zs) ys (inl same) = inl same
mem_front x (z ∷ zs) ys (inr later) = inr (mem_front x zs ys later)

mem_back : {A : Type 0} (x : A) (xs ys : List A) → Mem x ys → Mem x (xs ++ ys)
mem_back x [] ys m = m
mem_back x (z ∷ zs) ys m = inr (mem_back x zs ys m)

mem_either : {A : Type 0} (x : A) (xs ys : List A) → Mem x (xs ++ ys) → Mem x xs ⊎ Mem x ys
mem_either x [] ys m = inr m
mem_either x (z ∷ zs) ys (inl same) = inl (inl same)
mem_either x (z ∷ zs) ys (inr later) = elim (mem_either x zs ys later) [ inl front ↦ inl (inr front) | inr back ↦ inr back ]

-- ---- the pairs of places that pass a test

chosen_at : (ps : List (List ℕ)) (test : ℕ → Bool) (x : List ℕ) → Mem x (chosen ps test) → (j : ℕ) × (slice_get ps j ≡ Some x) × (test j ≡ true)
chosen_at [] test x m = absurd m
chosen_at (p ∷ ps) test x m = go (λ n. let r = chosen_at ps (λ j. test (suc j)) x n in (suc r.0, r.1, r.2)) (test 0) refl m
  where
    go : (Mem x (chosen ps (λ j. test (suc j))) → (j : ℕ) × (slice_get (p ∷ ps) j ≡ Some x) × (test j ≡ true)) → (b : Bool) → test 0 ≡ b
        → Mem x (cond b (p ∷ chosen ps (λ j. test (suc j))) (chosen ps (λ j. test (suc j)))) → (j : ℕ) × (slice_get (p ∷ ps) j ≡ Some x) × (test j ≡ true)
    go later true is (inl same) = (0, ap Some (sym same), is)
    go later true is (inr n) = later n
    go later false is n = later n

at_chosen : (ps : List (List ℕ)) (test : ℕ → Bool) (x : List ℕ) (j : ℕ) → slice_get ps j ≡ Some x → test j ≡ true → Mem x (chosen ps test)
at_chosen [] test x j at is = absurd cc
at_chosen (p ∷ ps) test x zero at is = subst (λ b. Mem x (cond b (p ∷ chosen ps (λ j. test (suc j))) (chosen ps (λ j. test (suc j))))) (sym is) (inl (same_Some x p (sym at)))
at_chosen (p ∷ ps) test x (suc j) at is = go (at_chosen ps (λ j. test (suc j)) x j at is) (test 0)
  where
    go : Mem x (chosen ps (λ j. test (suc j))) → (b : Bool) → Mem x (cond b (p ∷ chosen ps (λ j. test (suc j))) (chosen ps (λ j. test (suc j))))
    go later true = inr later
    go later false = later

mem_with : (g : List ℕ) (ps : List (List ℕ)) (m : Membership) → Mem m (map (λ p. record { group = g; member = p }) ps) → (m.group ≡ g) × Mem m.member ps
mem_with g [] m is = absurd is
mem_with g (p ∷ ps) m (inl same) = (ap (λ (e : Membership). e.group) same, inl (ap (λ (e : Membership). e.member) same))
mem_with g (p ∷ ps) m (inr later) = let r = mem_with g ps m later in (r.0, inr r.1)

abbrev pair_of : List ℕ → List ℕ → Membership
pair_of g p = record { group = g; member = p }

with_mem : (g : List ℕ) (ps : List (List ℕ)) (p : List ℕ) → Mem p ps → Mem (pair_of g p) (map (λ q. record { group = g; member = q }) ps)
with_mem g [] p is = absurd is
with_mem g (q ∷ qs) p (inl same) = inl (λ i. record { group = g; member = same i })
with_mem g (q ∷ qs) p (inr later) = inr (with_mem g qs p later)

-- the pair is that of two places that pass
abbrev pub IsAt : List (List ℕ) → List (List ℕ) → (ℕ → ℕ → Bool) → Membership → Type 0
IsAt principals groups test m = (i : ℕ) × (j : ℕ) × (slice_get groups i ≡ Some m.group) × (slice_get principals j ≡ Some m.member) × (test i j ≡ true)

pair_at : (ps gs : List (List ℕ)) (test : ℕ → ℕ → Bool) (m : Membership) → Mem m (pairs_by ps gs test) → IsAt ps gs test m
pair_at ps [] test m is = absurd is
pair_at ps (g ∷ gs) test m is = elim (mem_either m (map (λ p. record { group = g; member = p }) (chosen ps (test 0))) (pairs_by ps gs (λ i. test (suc i))) is) [
  | inl here ↦ let w = mem_with g (chosen ps (test 0)) m here in let c = chosen_at ps (test 0) m.member w.1 in (0, c.0, ap Some (sym w.0), c.1, c.2)
  | inr later ↦ let r = pair_at ps gs (λ i. test (suc i)) m later in (suc r.0, r.1, r.2, r.3, r.4)
]

at_pair : (ps gs : List (List ℕ)) (test : ℕ → ℕ → Bool) (i j : ℕ) (g p : List ℕ) → slice_get gs i ≡ Some g → slice_get ps j ≡ Some p → test i j ≡ true → Mem (pair_of g p) (pairs_by ps gs test)
at_pair ps [] test i j g p ig jp is = absurd cc
at_pair ps (x ∷ gs) test zero j g p ig jp is =
    mem_front _ (map (λ q. record { group = x; member = q }) (chosen ps (test 0))) (pairs_by ps gs (λ i. test (suc i)))
    (subst (λ h. Mem (pair_of h p) (map (λ q. record { group = x; member = q }) (chosen ps (test 0)))) (same_Some x g ig) (with_mem x (chosen ps (test 0)) p (at_chosen ps (test 0) p j jp is)))
at_pair ps (x ∷ gs) test (suc i) j g p ig jp is =
    mem_back _ (map (λ q. record { group = x; member = q }) (chosen ps (test 0))) (pairs_by ps gs (λ i. test (suc i))) (at_pair ps gs (λ i. test (suc i)) i j g p ig jp is)

abbrev pub set_by : List (List ℕ) → (ℕ → ℕ → Bool) → Memberships
set_by ps test = set_of (pairs_by ps ps test)

pub told : (ps : List (List ℕ)) (test : ℕ → ℕ → Bool) (m : Membership) → set.contains (set_by ps test) m ≡ true → IsAt ps ps test m
told ps test m is = pair_at ps ps test m (mem_listed (pairs_by ps ps test) m (sym (set.contains-from_list memberships_total (pairs_by ps ps test) m) ∙ is))

pub tell : (ps : List (List ℕ)) (test : ℕ → ℕ → Bool) (i j : ℕ) (m : Membership) → slice_get ps i ≡ Some m.group → slice_get ps j ≡ Some m.member → test i j ≡ true → set.contains (set_by ps test) m ≡ true
tell ps test i j m ig jp is = set.contains-from_list memberships_total (pairs_by ps ps test) m ∙ listed_mem (pairs_by ps ps test) m (at_pair ps ps test i j m.group m.member ig jp is)

-- ---- each principal has one place

never_below_itself : (x : List ℕ) → path_cmp x x ≡ Less → ⊥
never_below_itself x less = false≢true (ap is_eq (sym less) ∙ is_eq-slice_cmp x x ∙ path_itself x)

pub one_place : (ps : List (List ℕ)) → IsStrictlySortedBy path_cmp ps → (i j : ℕ) (x : List ℕ) → slice_get ps i ≡ Some x → slice_get ps j ≡ Some x → i ≡ j
one_place ps sorted i j x ix jx = go (cases_lt i j) (cases_lt j i)
  where
    below : (a b : ℕ) → slice_get ps a ≡ Some x → slice_get ps b ≡ Some x → a < b → ⊥
    below a b ax bx less =
        let l : path_cmp (get_or ps a x) (get_or ps b x) ≡ Less = Less-from_sorted path_cmp ps a b x sorted less (slice_get_within ps b x bx) in
        never_below_itself x ((λ k. path_cmp (sym (get_or_from_slice_get ps a x x ax) k) (sym (get_or_from_slice_get ps b x x bx) k)) ∙ l)

    go : (i < j) ⊎ (j ≤ i) → (j < i) ⊎ (i ≤ j) → i ≡ j
    go (inl less) other = absurd (below i j ix jx less)
    go (inr least) (inl greater) = absurd (below j i jx ix greater)
    go (inr least) (inr greatest) = omega arith

-- at the places of two the test tells whether the pair is there
pub at_places : (ps : List (List ℕ)) → IsStrictlySortedBy path_cmp ps → (test : ℕ → ℕ → Bool) (i j : ℕ) (m : Membership) → slice_get ps i ≡ Some m.group → slice_get ps j ≡ Some m.member → set.contains (set_by ps test) m ≡ test i j
at_places ps sorted test i j m ig jp = both_ways (set.contains (set_by ps test) m) (test i j)
    (λ is. let r = told ps test m is in
    (λ k. test (one_place ps sorted i r.0 m.group ig r.2 k) (one_place ps sorted j r.1 m.member jp r.3 k)) ∙ r.4)
    (λ is. tell ps test i j m ig jp is)

-- who is not numbered is in no pair
pub has_place : (ps : List (List ℕ)) (i : ℕ) (p : List ℕ) → slice_get ps i ≡ Some p → has_path ps p ≡ true
has_place [] i p at = absurd cc
has_place (x ∷ ps) zero p at = or_left (bytes_eq x p) (has_path ps p) (ap (λ y. bytes_eq y p) (same_Some x p at) ∙ path_itself p)
has_place (x ∷ ps) (suc i) p at = or_right (bytes_eq x p) (has_path ps p) (has_place ps i p at)

pub no_group : (ps : List (List ℕ)) (test : ℕ → ℕ → Bool) (m : Membership) → has_path ps m.group ≡ false → set.contains (set_by ps test) m ≡ false
no_group ps test m none = false_from_ne_true _ (λ is. let r = told ps test m is in false≢true (sym none ∙ has_place ps r.0 m.group r.2))

pub no_member : (ps : List (List ℕ)) (test : ℕ → ℕ → Bool) (m : Membership) → has_path ps m.member ≡ false → set.contains (set_by ps test) m ≡ false
no_member ps test m none = false_from_ne_true _ (λ is. let r = told ps test m is in false≢true (sym none ∙ has_place ps r.1 m.member r.3))

-- ---- rows that are changed

-- rows with the same bits have the same pairs
pub same_bits : (ps rows others : List (List ℕ)) → ((i j : ℕ) → has_bit others i j ≡ has_bit rows i j) → pairs_in_rows ps others ≡ pairs_in_rows ps rows
same_bits ps rows others same = λ k. set_by ps (λ i j. same i j k)

-- at one place the row gets other bits
pub at_row : (rows : List (List ℕ)) (i : ℕ) (row : List ℕ) → i < length rows → (a j : ℕ) → ((a ≡ i) × (has_bit (set rows i row) a j ≡ bit row j)) ⊎ ((nat_eq a i ≡ false) × (has_bit (set rows i row) a j ≡ has_bit rows a j))
at_row rows i row within a j = elim (eqb_tells a i) [
  | inl same ↦ inl (same.1, ap (λ x. has_bit (set rows i row) x j) same.1 ∙ ap (λ r. bit r j) (get_or-set_same rows i row [] within))
  | inr other ↦ inr (other.0, ap (λ r. bit r j) (get_or-set_other rows i a row [] other.1))
]

-- the row with one bit more, or as it was
pub row_marked : (rows : List (List ℕ)) (i j : ℕ) (row : List ℕ) → i < length rows → ((b : ℕ) → bit row b ≡ (nat_eq b j || has_bit rows i b)) → (a b : ℕ) → has_bit (set rows i row) a b ≡ ((nat_eq a i && nat_eq b j) || has_bit rows a b)
row_marked rows i j row within marked a b = elim (at_row rows i row within a b) [
  | inl here ↦ here.1 ∙ marked b ∙ (λ k. (same (nat_eq a i) (is_same here.0) k && nat_eq b j) || has_bit rows (sym here.0 k) b)
  | inr other ↦ other.1 ∙ ap (λ e. (e && nat_eq b j) || has_bit rows a b) (sym other.0)
]
  where
    is_same : a ≡ i → nat_eq a i ≡ true
    is_same e = elim (eqb_tells a i) [ inl is ↦ is.0 | inr other ↦ absurd (other.1 e) ]

    same : (e : Bool) → e ≡ true → true ≡ e
    same e is = sym is

pub row_kept : (rows : List (List ℕ)) (i : ℕ) (row : List ℕ) → i < length rows → ((b : ℕ) → bit row b ≡ has_bit rows i b) → (a b : ℕ) → has_bit (set rows i row) a b ≡ has_bit rows a b
row_kept rows i row within kept a b = elim (at_row rows i row within a b) [
  | inl here ↦ here.1 ∙ kept b ∙ ap (λ x. has_bit rows x b) (sym here.0)
  | inr other ↦ other.1
]

-- with the bit of two places they have the pair of these more
pub bit_is_pair : (ps : List (List ℕ)) → IsStrictlySortedBy path_cmp ps → (rows others : List (List ℕ)) (i j : ℕ) (m : Membership) → slice_get ps i ≡ Some m.group → slice_get ps j ≡ Some m.member
    → ((a b : ℕ) → has_bit others a b ≡ ((nat_eq a i && nat_eq b j) || has_bit rows a b)) → pairs_in_rows ps others ≡ set.insert (pairs_in_rows ps rows) m
bit_is_pair ps sorted rows others i j m ig jp more = set.same_set memberships_total memberships_exact _ _ (λ q.
    both_ways (set.contains (pairs_in_rows ps others) q) (set.contains (set.insert (pairs_in_rows ps rows) m) q)
    (λ is. set.contains-insert memberships_total (pairs_in_rows ps rows) m q ∙ forth q (told ps (has_bit others) q is))
    (λ is. elim (or_cases (eq_by_cmp membership_cmp q m) (set.contains (pairs_in_rows ps rows) q) (sym (set.contains-insert memberships_total (pairs_in_rows ps rows) m q) ∙ is)) [
      | inl same ↦ ap (set.contains (pairs_in_rows ps others)) (same_pair q m same) ∙ tell ps (has_bit others) i j m ig jp (more i j ∙ or_left (nat_eq i i && nat_eq j j) (has_bit rows i j) (and_from (nat_eq i i) (nat_eq j j) (itself i) (itself j)))
      | inr old ↦ let r = told ps (has_bit rows) q old in tell ps (has_bit others) r.0 r.1 q r.2 r.3 (more r.0 r.1 ∙ or_right (nat_eq r.0 i && nat_eq r.1 j) (has_bit rows r.0 r.1) r.4)
    ]))
  where
    itself : (n : ℕ) → nat_eq n n ≡ true
    itself n = elim (eqb_tells n n) [ inl is ↦ is.0 | inr other ↦ absurd (other.1 refl) ]

    is_place : (a b : ℕ) → nat_eq a b ≡ true → a ≡ b
    is_place a b e = elim (eqb_tells a b) [ inl is ↦ is.1 | inr other ↦ absurd (false≢true (sym other.0 ∙ e)) ]

    forth : (q : Membership) → IsAt ps ps (has_bit others) q → (eq_by_cmp membership_cmp q m || set.contains (pairs_in_rows ps rows) q) ≡ true
    forth q (a, b, ag, bp, is) = elim (or_cases (nat_eq a i && nat_eq b j) (has_bit rows a b) (sym (more a b) ∙ is)) [
      | inl new ↦
          let both = and_parts (nat_eq a i) (nat_eq b j) new in
          let g : q.group ≡ m.group = same_Some q.group m.group (sym ag ∙ ap (slice_get ps) (is_place a i both.0) ∙ ig) in
          let p : q.member ≡ m.member = same_Some q.member m.member (sym bp ∙ ap (slice_get ps) (is_place b j both.1) ∙ jp) in
          let same : q ≡ m = λ k. record { group = g k; member = p k } in
          or_left (eq_by_cmp membership_cmp q m) _ (ap (λ e. eq_by_cmp membership_cmp e m) same ∙ pair_itself m)
      | inr old ↦ or_right (eq_by_cmp membership_cmp q m) _ (tell ps (has_bit rows) a b q ag bp old)
    ]
