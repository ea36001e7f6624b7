-- Lists of the pairs of rows.
use Rattle.std.proofs.Common.{◌≡◌, ℕ, zero, suc, ◌+◌, ◌<◌, ◌≤◌, ◌&&◌, ◌||◌, ◌%◌, nat_eq, not, Bool, true, false, cond, List, [], ◌∷◌, ◌++◌, map, take, length, get_or, Some, None, Option, refl, sym, ap, ◌∙◌, arith, slice_get, append_assoc, append-nil, add-one}
use Rattle.std.proofs.Math.Seq.{take-suc}
use Rattle.std.specs.Cmp.{both_ways}
use Rattle.std.specs.Ordering.{eq_by_cmp}
use Rattle.std.proofs.lemmas.Bool.{false≢true, and_parts, and_from, or_left}
use Rattle.std.proofs.lemmas.List.{map-append}
use Rattle.std.proofs.lemmas.Nat.Bits.{bit_at-zero}
use Rattle.std.specs.FinSet as set
use Rattle.std.specs.List.Sorted.{IsStrictlySortedBy}
use Rattle.book_lists.specs.Circles.{has_path}
use Rattle.book_lists.specs.Memberships.{Memberships, membership_cmp, set_of}
use Rattle.book_lists.specs.Principals.{path_cmp}
use Rattle.book_lists.specs.declared.memberships.Membership.{Membership}
use Rattle.book_lists.proofs.Pairing.{memberships_total, memberships_exact}
use Rattle.book_lists_reach.specs.Bits.{bit}
use Rattle.book_lists_reach.specs.Numbering.{ArePlaces, IsPlaceOf, is_listed}
use Rattle.book_lists_reach.specs.Pairs.{bit_alone, bit_between, chosen, has_bit, pairs_by, pairs_in_rows, row_by}
use Rattle.book_lists_reach.proofs.Places.{Misses, no_bits, no_pairs, place_at}
use Rattle.book_lists_reach.proofs.RowPairs.{at_places, pair_itself, no_group, no_member, set_by, tell, told}

length_take : {A : Type 0} (xs : List A) (n : ℕ) → n ≤ length xs → length (take n xs) ≡ n
length_take xs zero l = refl
length_take [] (suc n) l = absurd (omega arith)
length_take (x ∷ xs) (suc n) l = ap suc (length_take xs n (omega arith))

take_more : {A : Type 0} (xs : List A) (n : ℕ) (d : A) → n < length xs → take (n + 1) xs ≡ take n xs ++ get_or xs n d ∷ []
take_more xs n d l = ap (λ k. take k xs) (add-one n) ∙ take-suc xs n d l

take_all : {A : Type 0} (xs : List A) (n : ℕ) → length xs ≤ n → take n xs ≡ xs
take_all [] zero l = refl
take_all [] (suc n) l = refl
take_all (x ∷ xs) zero l = absurd (omega arith)
take_all (x ∷ xs) (suc n) l = ap (λ ys. x ∷ ys) (take_all xs n (omega arith))

-- ---- one member more

chosen_push : (ps : List (List ℕ)) (p : List ℕ) (test : ℕ → Bool) → chosen (ps ++ p ∷ []) test ≡ chosen ps test ++ cond (test (length ps)) (p ∷ []) []
chosen_push [] p test = refl
chosen_push (x ∷ ps) p test = go (test 0) (chosen_push ps p (λ j. test (suc j)))
  where
    go : (b : Bool) → chosen (ps ++ p ∷ []) (λ j. test (suc j)) ≡ chosen ps (λ j. test (suc j)) ++ cond (test (suc (length ps))) (p ∷ []) []
        → cond b (x ∷ chosen (ps ++ p ∷ []) (λ j. test (suc j))) (chosen (ps ++ p ∷ []) (λ j. test (suc j)))
        ≡ cond b (x ∷ chosen ps (λ j. test (suc j))) (chosen ps (λ j. test (suc j))) ++ cond (test (suc (length ps))) (p ∷ []) []
    go true more = ap (λ ys. x ∷ ys) more
    go false more = more

chosen_more : (ps : List (List ℕ)) (test : ℕ → Bool) (j : ℕ) → j < length ps → chosen (take (j + 1) ps) test ≡ chosen (take j ps) test ++ cond (test j) (get_or ps j [] ∷ []) []
chosen_more ps test j l =
    ap (λ xs. chosen xs test) (take_more ps j [] l) ∙ chosen_push (take j ps) (get_or ps j []) test
    ∙ ap (λ n. chosen (take j ps) test ++ cond (test n) (get_or ps j [] ∷ []) []) (length_take ps j (omega arith))

abbrev Pair : List ℕ → List ℕ → Membership
Pair g p = record { group = g; member = p }

-- the pair with one member more, if it passes
pub row_more : (ps : List (List ℕ)) (g : List ℕ) (test : ℕ → Bool) (j : ℕ) (before list new : List Membership) → j < length ps → new ≡ list ++ cond (test j) (record { group = g; member = get_or ps j [] } ∷ []) []
    → list ≡ before ++ row_by (take j ps) g test → new ≡ before ++ row_by (take (j + 1) ps) g test
row_more ps g test j before list new l is so_far =
    is ∙ ap (λ xs. xs ++ cond (test j) (Pair g (get_or ps j []) ∷ []) []) so_far
    ∙ append_assoc before (row_by (take j ps) g test) (cond (test j) (Pair g (get_or ps j []) ∷ []) [])
    ∙ ap (λ xs. before ++ xs) (ap (λ xs. row_by (take j ps) g test ++ xs) (one (test j)) ∙ sym (map-append (Pair g) (chosen (take j ps) test) (cond (test j) (get_or ps j [] ∷ []) []))
    ∙ ap (map (Pair g)) (sym (chosen_more ps test j l)))
  where
    one : (b : Bool) → cond b (Pair g (get_or ps j []) ∷ []) [] ≡ map (Pair g) (cond b (get_or ps j [] ∷ []) [])
    one true = refl
    one false = refl

pub row_begins : (ps : List (List ℕ)) (g : List ℕ) (test : ℕ → Bool) (list : List Membership) → list ≡ list ++ row_by (take 0 ps) g test
row_begins ps g test list = sym (append-nil list)

pub row_ends : (ps : List (List ℕ)) (g : List ℕ) (test : ℕ → Bool) (j : ℕ) (before list : List Membership) → length ps ≤ j → list ≡ before ++ row_by (take j ps) g test → list ≡ before ++ row_by ps g test
row_ends ps g test j before list all so_far = so_far ∙ ap (λ xs. before ++ row_by xs g test) (take_all ps j all)

chosen_none : (ps : List (List ℕ)) (test : ℕ → Bool) → ((j : ℕ) → test j ≡ false) → chosen ps test ≡ []
chosen_none [] test none = refl
chosen_none (p ∷ ps) test none = ap (λ b. cond b (p ∷ chosen ps (λ j. test (suc j))) (chosen ps (λ j. test (suc j)))) (none 0) ∙ chosen_none ps (λ j. test (suc j)) (λ j. none (suc j))

-- a row without words has no pair
pub row_bare : (ps : List (List ℕ)) (g : List ℕ) (rows others : List (List ℕ)) (places : List (Option ℕ)) (i : ℕ) (list : List Membership) → get_or rows i [] ≡ [] → list ≡ list ++ row_by ps g (bit_alone rows others places i)
row_bare ps g rows others places i list bare =
    sym (ap (λ xs. list ++ map (Pair g) xs) (chosen_none ps (bit_alone rows others places i) none) ∙ append-nil list)
  where
    none : (j : ℕ) → bit_alone rows others places i j ≡ false
    none j = ap (λ b. b && not (bit_between others (get_or places i None) (get_or places j None))) (ap (λ r. bit r j) bare ∙ ap (λ b. nat_eq b 1) (bit_at-zero (j % 64)))

-- ---- one group more

pairs_push : (ps gs : List (List ℕ)) (g : List ℕ) (test : ℕ → ℕ → Bool) → pairs_by ps (gs ++ g ∷ []) test ≡ pairs_by ps gs test ++ row_by ps g (test (length gs))
pairs_push ps [] g test = append-nil (row_by ps g (test 0))
pairs_push ps (x ∷ gs) g test =
    ap (λ ys. row_by ps x (test 0) ++ ys) (pairs_push ps gs g (λ i. test (suc i)))
    ∙ sym (append_assoc (row_by ps x (test 0)) (pairs_by ps gs (λ i. test (suc i))) (row_by ps g (test (suc (length gs)))))

pub pairs_more : (ps : List (List ℕ)) (test : ℕ → ℕ → Bool) (i : ℕ) (list new : List Membership) → i < length ps → new ≡ list ++ row_by ps (get_or ps i []) (test i) → list ≡ pairs_by ps (take i ps) test → new ≡ pairs_by ps (take (i + 1) ps) test
pairs_more ps test i list new l row so_far =
    row ∙ ap (λ xs. xs ++ row_by ps (get_or ps i []) (test i)) so_far
    ∙ ap (λ n. pairs_by ps (take i ps) test ++ row_by ps (get_or ps i []) (test n)) (sym (length_take ps i (omega arith)))
    ∙ sym (ap (λ gs. pairs_by ps gs test) (take_more ps i [] l) ∙ pairs_push ps (take i ps) (get_or ps i []) test)

pub pairs_all : (ps : List (List ℕ)) (test : ℕ → ℕ → Bool) (i : ℕ) (list : List Membership) → length ps ≤ i → list ≡ pairs_by ps (take i ps) test → list ≡ pairs_by ps ps test
pairs_all ps test i list all so_far = so_far ∙ ap (λ gs. pairs_by ps gs test) (take_all ps i all)

-- ---- the pairs that others have not

between : (qs : List (List ℕ)) → IsStrictlySortedBy path_cmp qs → (others : List (List ℕ)) (m : Membership) (i j : Option ℕ) → IsPlaceOf qs m.group i → IsPlaceOf qs m.member j → bit_between others i j ≡ set.contains (pairs_in_rows qs others) m
between qs sorted others m None j g p = sym (no_group qs (has_bit others) m g)
between qs sorted others m (Some i) None g p = sym (no_member qs (has_bit others) m p)
between qs sorted others m (Some i) (Some j) g p = sym (at_places qs sorted (has_bit others) i j m g p)

pub alone_listed : (ps qs rows others : List (List ℕ)) (places : List (Option ℕ)) → IsStrictlySortedBy path_cmp qs → ArePlaces qs ps places → (list : List Membership) → list ≡ pairs_by ps ps (bit_alone rows others places)
    → (m : Membership) → is_listed list m ≡ (set.contains (pairs_in_rows ps rows) m && not (set.contains (pairs_in_rows qs others) m))
alone_listed ps qs rows others places sorted are list is m =
    ap (λ xs. is_listed xs m) is ∙ sym (set.contains-from_list memberships_total (pairs_by ps ps (bit_alone rows others places)) m)
    ∙ both_ways (set.contains (set_by ps (bit_alone rows others places)) m) (set.contains (pairs_in_rows ps rows) m && not (set.contains (pairs_in_rows qs others) m)) forth back
  where
    at_others : (i j : ℕ) → slice_get ps i ≡ Some m.group → slice_get ps j ≡ Some m.member → bit_between others (get_or places i None) (get_or places j None) ≡ set.contains (pairs_in_rows qs others) m
    at_others i j ig jp = between qs sorted others m (get_or places i None) (get_or places j None) (place_at qs ps places i m.group are ig) (place_at qs ps places j m.member are jp)

    forth : set.contains (set_by ps (bit_alone rows others places)) m ≡ true → (set.contains (pairs_in_rows ps rows) m && not (set.contains (pairs_in_rows qs others) m)) ≡ true
    forth has =
        let r = told ps (bit_alone rows others places) m has in
        let both = and_parts (has_bit rows r.0 r.1) (not (bit_between others (get_or places r.0 None) (get_or places r.1 None))) r.4 in
        and_from _ _ (tell ps (has_bit rows) r.0 r.1 m r.2 r.3 both.0) (ap not (sym (at_others r.0 r.1 r.2 r.3)) ∙ both.1)

    back : (set.contains (pairs_in_rows ps rows) m && not (set.contains (pairs_in_rows qs others) m)) ≡ true → set.contains (set_by ps (bit_alone rows others places)) m ≡ true
    back has =
        let both = and_parts (set.contains (pairs_in_rows ps rows) m) (not (set.contains (pairs_in_rows qs others) m)) has in
        let r = told ps (has_bit rows) m both.0 in
        tell ps (bit_alone rows others places) r.0 r.1 m r.2 r.3 (and_from (has_bit rows r.0 r.1) _ r.4 (ap not (at_others r.0 r.1 r.2 r.3) ∙ both.1))

-- all of them, where others have none
pub listed_all : (pairs : Memberships) (list : List Membership) → ((m : Membership) → is_listed list m ≡ (set.contains pairs m && not (set.contains (set.empty {R = membership_cmp}) m))) → set_of list ≡ pairs
listed_all pairs list are = set.same_set memberships_total memberships_exact _ _ (λ m.
    set.contains-from_list memberships_total list m ∙ are m ∙ ap (λ b. set.contains pairs m && not b) (set.contains-empty membership_cmp m) ∙ and_true (set.contains pairs m))
  where
    and_true : (b : Bool) → (b && true) ≡ b
    and_true true = refl
    and_true false = refl

-- where neither has a pair that the other has not, they are the same
pub same_where_none : (pairs others : Memberships) (gone come : List Membership) → ((m : Membership) → is_listed gone m ≡ (set.contains pairs m && not (set.contains others m)))
    → ((m : Membership) → is_listed come m ≡ (set.contains others m && not (set.contains pairs m))) → gone ≡ [] → come ≡ [] → others ≡ pairs
same_where_none pairs others gone come gone_are come_are no_gone no_come = set.same_set memberships_total memberships_exact _ _ (λ m.
    both (set.contains others m) (set.contains pairs m) (ap (λ g. is_listed g m) (sym no_come) ∙ come_are m) (ap (λ g. is_listed g m) (sym no_gone) ∙ gone_are m))
  where
    both : (a b : Bool) → false ≡ (a && not b) → false ≡ (b && not a) → a ≡ b
    both true true g c = refl
    both true false g c = sym g
    both false true g c = c
    both false false g c = refl

-- a list that has a pair has one that others have not
pub some_left : (pairs others : Memberships) (list : List Membership) → (list ≡ [] → ⊥) → ((m : Membership) → is_listed list m ≡ (set.contains pairs m && not (set.contains others m))) → others ≡ pairs → ⊥
some_left pairs others [] some are same = some refl
some_left pairs others (x ∷ xs) some are same =
    false≢true (sym (never (set.contains pairs x)) ∙ ap (λ (s : Memberships). set.contains pairs x && not (set.contains s x)) (sym same) ∙ sym (are x) ∙ or_left (eq_by_cmp membership_cmp x x) (is_listed xs x) (pair_itself x))
  where
    never : (b : Bool) → (b && not b) ≡ false
    never true = refl
    never false = refl

-- rows to which the pairs of a list were added, and no others
pub marked_are : (ps bare rows : List (List ℕ)) (list : List Membership) → ((m : Membership) → set.contains (pairs_in_rows ps rows) m ≡ (is_listed list m || set.contains (pairs_in_rows ps bare) m)) → ((i : ℕ) → get_or bare i [] ≡ [])
    → pairs_in_rows ps rows ≡ set_of list
marked_are ps bare rows list marked none = set.same_set memberships_total memberships_exact _ _ (λ m.
    marked m ∙ ap (λ b. is_listed list m || b) (no_pairs ps bare (no_bits bare none) m) ∙ or_false (is_listed list m) ∙ sym (set.contains-from_list memberships_total list m))
  where
    or_false : (b : Bool) → (b || false) ≡ b
    or_false true = refl
    or_false false = refl

-- a list that has who has no place is not that of the rows
pub not_those : (ps rows : List (List ℕ)) (list : List Membership) → Misses ps list → set_of list ≡ pairs_in_rows ps rows → ⊥
not_those ps rows list misses same = at (has_path ps misses.0.group) refl
  where
    there : set.contains (pairs_in_rows ps rows) misses.0 ≡ true
    there = ap (λ (s : Memberships). set.contains s misses.0) (sym same) ∙ set.contains-from_list memberships_total list misses.0 ∙ misses.1

    at : (b : Bool) → has_path ps misses.0.group ≡ b → ⊥
    at true is = false≢true (sym (no_member ps (has_bit rows) misses.0 (ap (λ b. b && has_path ps misses.0.member) (sym is) ∙ misses.2)) ∙ there)
    at false is = false≢true (sym (no_group ps (has_bit rows) misses.0 is) ∙ there)

-- lists with the same elements at all places
pub by_places : {A : Type 0} (d : A) (xs ys : List A) → length xs ≡ length ys → ((k : ℕ) → k < length xs → get_or xs k d ≡ get_or ys k d) → xs ≡ ys
by_places d [] [] len same = refl
by_places d [] (y ∷ ys) len same = absurd (omega arith)
by_places d (x ∷ xs) [] len same = absurd (omega arith)
by_places d (x ∷ xs) (y ∷ ys) len same = λ i. same 0 (omega arith) i ∷ by_places d xs ys (omega arith) (λ k l. same (suc k) (omega arith)) i

pub nothing_sorted : IsStrictlySortedBy path_cmp []
unfolding IsStrictlySortedBy
nothing_sorted = tt

pub places_len : (qs ps : List (List ℕ)) (ns : List (Option ℕ)) → ArePlaces qs ps ns → length ns ≡ length ps
places_len qs [] [] are = refl
places_len qs [] (n ∷ ns) are = absurd are
places_len qs (p ∷ ps) [] are = absurd are
places_len qs (p ∷ ps) (n ∷ ns) are = ap suc (places_len qs ps ns are.1)

-- a list that cannot have a pair has none
pub none_where : (list : List Membership) → ((list ≡ [] → ⊥) → ⊥) → list ≡ []
none_where [] never = refl
none_where (x ∷ xs) never = absurd (never (λ e. cc))
