-- Places of principals in a list of them.
use Rattle.std.proofs.Common.{◌≡◌, ℕ, zero, suc, ◌+◌, ◌<◌, ◌≤◌, ◌⊎◌, inl, inr, ◌&&◌, ◌||◌, ◌%◌, nat_eq, Bool, true, false, List, [], ◌∷◌, ◌++◌, take, length, get_or, Some, None, Ok, Err, Option, Result, Vec, IfOk, refl, sym, ap, subst, ◌∙◌, arith, slice_get, IsTrue, IsFalse}
use Rattle.std.proofs.lemmas.Bool.{false≢true, and_from, or_cases, or_left, or_right, cases_lt, false_from_ne_true}
use Rattle.std.proofs.lemmas.Cmp.{nat_list_cmp_total, nat_list_eq_equiv}
use Rattle.std.proofs.lemmas.List.Folds.{list_any-append, list_any_more}
use Rattle.std.proofs.lemmas.List.Sorted.{searchable_from_sorted}
use Rattle.std.proofs.lemmas.Map.Keys.{Less-from_sorted}
use Rattle.std.proofs.lemmas.Map.Text.{is_eq-slice_cmp}
use Rattle.std.proofs.lemmas.Option.{get_or_from_slice_get, slice_get_within, slice_get-get_or, same_Some}
use Rattle.std.specs.FinSet as set
use Rattle.std.specs.List.{list_any}
use Rattle.std.specs.List.Sorted.{IsNonDecreasingBy, IsPartitionPoint, IsStrictlySortedBy}
use Rattle.std.specs.Ordering.{eq_by_cmp, is_eq, is_lt, ordering_index, ordering_reverse}
use Rattle.std.specs.declared.cmp.Ordering.TheVariants.{Equal, Greater, Less}
use Rattle.std.specs.Str.{bytes_eq}
use Rattle.book_lists.specs.Circles.{has_path}
use Rattle.book_lists.specs.Memberships.{Memberships, membership_cmp, set_of}
use Rattle.book_lists.specs.Principals.{path_cmp}
use Rattle.book_lists.specs.declared.memberships.Membership.{Membership}
use Rattle.book_lists.proofs.Pairing.{memberships_total, memberships_exact, path_itself, same_path}
use Rattle.std.proofs.lemmas.Nat.Bits.{bit_at-zero}
use Rattle.book_lists_reach.specs.Bits.{bit}
use Rattle.book_lists_reach.specs.Numbering.{ArePlaces, HasEnds, IsPlaceOf, is_listed}
use Rattle.book_lists_reach.specs.Pairs.{has_bit, pairs_in_rows}
use Rattle.book_lists_reach.proofs.RowPairs.{pair_itself, same_pair, told}

-- ---- what a search finds

equal_path : (x p : List ℕ) → path_cmp x p ≡ Equal → x ≡ p
equal_path x p e = same_path x p (sym (is_eq-slice_cmp x p) ∙ ap is_eq e)

pub found_there : (ps : List (List ℕ)) (p : List ℕ) (i : ℕ) → i < length ps → path_cmp (get_or ps i []) p ≡ Equal → slice_get ps i ≡ Some p
found_there ps p i within e = slice_get-get_or ps i [] within ∙ ap Some (equal_path (get_or ps i []) p e)

pub placed : (ps : List (List ℕ)) (p : List ℕ) → has_path ps p ≡ true → (k : ℕ) × (slice_get ps k ≡ Some p)
placed [] p has = absurd (false≢true has)
placed (x ∷ ps) p has = elim (or_cases (bytes_eq x p) (has_path ps p) has) [
  | inl here ↦ (0, ap Some (same_path x p here))
  | inr later ↦ let r = placed ps p later in (suc r.0, r.1)
]

equal_itself : (p : List ℕ) → is_eq (path_cmp p p) ≡ true
equal_itself p = is_eq-slice_cmp p p ∙ path_itself p

pub not_there : (ps : List (List ℕ)) (p : List ℕ) (i : ℕ) → IsPartitionPoint (λ y. path_cmp y p ≡ Less) (λ y. path_cmp y p ≡ Greater) ps i → has_path ps p ≡ false
not_there ps p i parts = false_from_ne_true (has_path ps p) (λ has. let r = placed ps p has in at r.0 r.1 (cases_lt r.0 i))
  where
    at : (k : ℕ) → slice_get ps k ≡ Some p → (k < i) ⊎ (i ≤ k) → ⊥
    at k kp (inl below) =
        let less : path_cmp p p ≡ Less = subst (λ x. path_cmp x p ≡ Less) (get_or_from_slice_get ps k p [] kp) (parts.0 k [] (omega arith) below) in
        false≢true (ap is_eq (sym less) ∙ equal_itself p)
    at k kp (inr above) =
        let greater : path_cmp p p ≡ Greater = subst (λ x. path_cmp x p ≡ Greater) (get_or_from_slice_get ps k p [] kp) (parts.1 k [] above (slice_get_within ps k p kp)) in
        false≢true (ap is_eq (sym greater) ∙ equal_itself p)

pub rises : (ps : List (List ℕ)) → IsStrictlySortedBy path_cmp ps → (p : List ℕ) → IsNonDecreasingBy (λ y. ordering_index (path_cmp y p)) ps
rises ps sorted p = searchable_from_sorted nat_list_cmp_total (λ x. x) ps p (λ k d low high.
    let less : path_cmp (get_or ps k d) (get_or ps (k + 1) d) ≡ Less = Less-from_sorted path_cmp ps k (k + 1) d sorted (omega arith) high in
    ap is_lt (nat_list_cmp_total.antisymm (get_or ps (k + 1) d) (get_or ps k d) ∙ ap ordering_reverse less))

-- ---- the principals of pairs

has_more : (ps : List (List ℕ)) (x q : List ℕ) → has_path (ps ++ x ∷ []) q ≡ (has_path ps q || (bytes_eq x q || false))
has_more ps x q = list_any-append (λ p. bytes_eq p q) ps (x ∷ [])

pub no_ends : (ends : List (List ℕ)) → HasEnds [] ends
no_ends ends m is = absurd (false≢true is)

pub ends_more : (list : List Membership) (i : ℕ) (e : Membership) (ends : List (List ℕ)) → i < length list → get_or list i e ≡ e → HasEnds (take i list) ends → HasEnds (take (i + 1) list) ((ends ++ e.group ∷ []) ++ e.member ∷ [])
ends_more list i e ends below is has m there = elim (or_cases (is_listed (take i list) m) (eq_by_cmp membership_cmp m (get_or list i e)) (sym (list_any_more (eq_by_cmp membership_cmp m) list i e below) ∙ there)) [
  | inl old ↦ (kept m.group (has m old).0, kept m.member (has m old).1)
  | inr new ↦
      let same : m ≡ e = same_pair m e (ap (eq_by_cmp membership_cmp m) (sym is) ∙ new) in
      (ap (λ (x : Membership). has_path ((ends ++ e.group ∷ []) ++ e.member ∷ []) x.group) same ∙ group, ap (λ (x : Membership). has_path ((ends ++ e.group ∷ []) ++ e.member ∷ []) x.member) same ∙ member)
]
  where
    kept : (q : List ℕ) → has_path ends q ≡ true → has_path ((ends ++ e.group ∷ []) ++ e.member ∷ []) q ≡ true
    kept q old = has_more (ends ++ e.group ∷ []) e.member q ∙ or_left (has_path (ends ++ e.group ∷ []) q) _ (has_more ends e.group q ∙ or_left (has_path ends q) _ old)

    group : has_path ((ends ++ e.group ∷ []) ++ e.member ∷ []) e.group ≡ true
    group =
        has_more (ends ++ e.group ∷ []) e.member e.group
        ∙ or_left (has_path (ends ++ e.group ∷ []) e.group) _ (has_more ends e.group e.group ∙ or_right (has_path ends e.group) _ (or_left (bytes_eq e.group e.group) false (path_itself e.group)))

    member : has_path ((ends ++ e.group ∷ []) ++ e.member ∷ []) e.member ≡ true
    member = has_more (ends ++ e.group ∷ []) e.member e.member ∙ or_right (has_path (ends ++ e.group ∷ []) e.member) _ (or_left (bytes_eq e.member e.member) false (path_itself e.member))

pub has_by_cmp : (ps : List (List ℕ)) (q : List ℕ) → has_path ps q ≡ list_any (eq_by_cmp path_cmp q) ps
has_by_cmp [] q = refl
has_by_cmp (p ∷ ps) q = λ k. (nat_list_eq_equiv.symm p q ∙ sym (is_eq-slice_cmp q p)) k || has_by_cmp ps q k

-- a vector that was collected from such a list
pub ordered_in : {Z E : Type 0} (r : Result (Vec (List ℕ) Z) E) (list keys : List (List ℕ)) → ((q : List ℕ) → list_any (eq_by_cmp path_cmp q) keys ≡ list_any (eq_by_cmp path_cmp q) list) → IfOk r (λ v. v.items ≡ keys)
    → IfOk r (λ v. (q : List ℕ) → has_path v.items q ≡ has_path list q)
ordered_in (Ok v) list keys same is = λ q. ap (λ xs. has_path xs q) is ∙ has_by_cmp keys q ∙ same q ∙ sym (has_by_cmp list q)
ordered_in (Err e) list keys same is = tt

pub same_ends : (list : List Membership) (ends ordered : List (List ℕ)) → ((q : List ℕ) → has_path ordered q ≡ has_path ends q) → HasEnds list ends → HasEnds list ordered
same_ends list ends ordered same has m is = let h = has m is in (same m.group ∙ h.0, same m.member ∙ h.1)

-- ---- the places of some among others

pub places_push : (others ps : List (List ℕ)) (ns : List (Option ℕ)) (p : List ℕ) (n : Option ℕ) → IsPlaceOf others p n → ArePlaces others ps ns → ArePlaces others (ps ++ p ∷ []) (ns ++ n ∷ [])
places_push others [] [] p n is are = (is, tt)
places_push others [] (m ∷ ns) p n is are = absurd are
places_push others (x ∷ ps) [] p n is are = absurd are
places_push others (x ∷ ps) (m ∷ ns) p n is are = (are.0, places_push others ps ns p n is are.1)

pub place_at : (others ps : List (List ℕ)) (ns : List (Option ℕ)) (i : ℕ) (p : List ℕ) → ArePlaces others ps ns → slice_get ps i ≡ Some p → IsPlaceOf others p (get_or ns i None)
place_at others [] ns i p are at = absurd cc
place_at others (x ∷ ps) [] i p are at = absurd are
place_at others (x ∷ ps) (n ∷ ns) zero p are at = subst (λ y. IsPlaceOf others y n) (same_Some x p at) are.0
place_at others (x ∷ ps) (n ∷ ns) (suc i) p are at = place_at others ps ns i p are.1 at

-- ---- rows of pairs

pub no_bits : (rows : List (List ℕ)) → ((i : ℕ) → get_or rows i [] ≡ []) → (i j : ℕ) → has_bit rows i j ≡ false
no_bits rows none i j = ap (λ r. bit r j) (none i) ∙ ap (λ b. nat_eq b 1) (bit_at-zero (j % 64))

pub no_pairs : (ps rows : List (List ℕ)) → ((i j : ℕ) → has_bit rows i j ≡ false) → (m : Membership) → set.contains (pairs_in_rows ps rows) m ≡ false
no_pairs ps rows none m = false_from_ne_true _ (λ is. let r = told ps (has_bit rows) m is in false≢true (sym (none r.0 r.1) ∙ r.4))

pub listed_at : (list : List Membership) (i : ℕ) (e : Membership) → i < length list → get_or list i e ≡ e → is_listed list e ≡ true
listed_at [] i e l is = absurd (omega arith)
listed_at (x ∷ xs) zero e l is = or_left (eq_by_cmp membership_cmp e x) (is_listed xs e) (ap (eq_by_cmp membership_cmp e) is ∙ pair_itself e)
listed_at (x ∷ xs) (suc i) e l is = or_right (eq_by_cmp membership_cmp e x) (is_listed xs e) (listed_at xs i e (omega arith) is)

-- a pair is added, and then it is one of the pairs so far
pub one_more_marked : (pairs old new : Memberships) (list : List Membership) (i : ℕ) (e : Membership) → i < length list → get_or list i e ≡ e → new ≡ set.insert pairs e
    → ((m : Membership) → set.contains pairs m ≡ (is_listed (take i list) m || set.contains old m)) → (m : Membership) → set.contains new m ≡ (is_listed (take (i + 1) list) m || set.contains old m)
one_more_marked pairs old new list i e below is added so_far m =
    ap (λ (s : Memberships). set.contains s m) added ∙ set.contains-insert memberships_total pairs e m ∙ ap (λ b. eq_by_cmp membership_cmp m e || b) (so_far m)
    ∙ shared (eq_by_cmp membership_cmp m e) (is_listed (take i list) m) (set.contains old m)
    ∙ ap (λ b. b || set.contains old m) (ap (λ x. is_listed (take i list) m || eq_by_cmp membership_cmp m x) (sym is) ∙ sym (list_any_more (eq_by_cmp membership_cmp m) list i e below))
  where
    shared : (a b c : Bool) → (a || (b || c)) ≡ ((b || a) || c)
    shared true true c = refl
    shared true false c = refl
    shared false true c = refl
    shared false false c = refl

-- a principal of some pair of the list has no place
abbrev pub Misses : List (List ℕ) → List Membership → Type 0
Misses ps list = (m : Membership) × (is_listed list m ≡ true) × ((has_path ps m.group && has_path ps m.member) ≡ false)

-- rows of all pairs of a list
pub are_numbered : (ps bare rows : List (List ℕ)) (list : List Membership) (pairs : Memberships) (marked : Bool)
    → (IsTrue marked → (m : Membership) → set.contains (pairs_in_rows ps rows) m ≡ (is_listed list m || set.contains (pairs_in_rows ps bare) m)) → (IsFalse marked → Misses ps list) → HasEnds list ps
    → ((i : ℕ) → get_or bare i [] ≡ []) → set_of list ≡ pairs → pairs_in_rows ps rows ≡ pairs
are_numbered ps bare rows list pairs true marked missing ends none is = set.same_set memberships_total memberships_exact _ _ (λ m.
    marked refl m ∙ ap (λ b. is_listed list m || b) (no_pairs ps bare (no_bits bare none) m) ∙ or_false (is_listed list m)
    ∙ sym (set.contains-from_list memberships_total list m) ∙ ap (λ (s : Memberships). set.contains s m) is)
  where
    or_false : (b : Bool) → (b || false) ≡ b
    or_false true = refl
    or_false false = refl
are_numbered ps bare rows list pairs false marked missing ends none is =
    let m = missing refl in
    let h = ends m.0 m.1 in
    absurd (false≢true (sym m.2 ∙ and_from (has_path ps m.0.group) (has_path ps m.0.member) h.0 h.1))
