-- Memberships by member: which pairs they are, and one pair more.
use Rattle.book_lists.proofs.Common.{◌≡◌, ℕ, Bool, true, false, cond, ◌&&◌, ◌||◌, List, [], ◌∷◌, ◌++◌, map, unwrap_or, Some, None, refl, sym, ap, ◌∙◌, is_at, flat_map, list_any, lookup, is_eq, eq_by_cmp, bytes_eq, Less, nat_list_cmp_total, nat_list_eq_equiv, is_eq-slice_cmp, and_parts, pairs_of, pairs_in, groups_at, membership_cmp, set_of, path_cmp}
use Rattle.std.specs.FinSet as set
use Rattle.std.specs.List.{AllByRecursion}
use Rattle.std.specs.List.Sorted.{IsStrictlySortedBy}
use Rattle.std.specs.Map.{keys_of}
use Rattle.std.proofs.lemmas.List.Folds.{list_any-append}
use Rattle.std.proofs.lemmas.Map.{lookup-none, NonePasses}
use Rattle.std.proofs.lemmas.Map.Keys.{sorted_head, sorted_tail}
use Rattle.book_lists.specs.declared.memberships.Membership.{Membership}
use Rattle.book_lists.specs.GroupEntries.{GroupEntries, memberships_in}
use Rattle.book_lists.proofs.Pairing.{memberships_total, memberships_exact, same_membership, same_path}

-- a path that ties with another is that path
pub tied : (a b : List ℕ) → is_at (path_cmp a) b ≡ true → a ≡ b
tied a b h = same_path a b (sym (is_eq-slice_cmp a b) ∙ h)

-- whether the pair is one of the member's
pub of_member : (group member : List ℕ) (k : List ℕ) (groups : List (List ℕ))
    → list_any (eq_by_cmp membership_cmp (record { group = group; member = member })) (map (λ g. record { group = g; member = k }) groups)
    ≡ (is_at (path_cmp member) k && list_any (eq_by_cmp path_cmp group) groups)
of_member group member k [] = sym (and_false (is_at (path_cmp member) k))
  where
    and_false : (b : Bool) → (b && false) ≡ false
    and_false true = refl
    and_false false = refl
of_member group member k (g ∷ gs) =
    (λ i. (same_membership (record { group = g; member = k }) (record { group = group; member = member }) ∙ turned) i || of_member group member k gs i)
    ∙ shared (is_at (path_cmp member) k) (eq_by_cmp path_cmp group g) (list_any (eq_by_cmp path_cmp group) gs)
  where
    turned : (bytes_eq g group && bytes_eq k member) ≡ (eq_by_cmp path_cmp group g && is_at (path_cmp member) k)
    turned = λ i. (nat_list_eq_equiv.symm g group ∙ sym (is_eq-slice_cmp group g)) i && (nat_list_eq_equiv.symm k member ∙ sym (is_eq-slice_cmp member k)) i

    shared : (m a r : Bool) → ((a && m) || (m && r)) ≡ (m && (a || r))
    shared true true r = refl
    shared true false r = refl
    shared false true r = refl
    shared false false r = refl

-- a member that is below each of the keys stands under none of them
below_all : (k : List ℕ) (es : GroupEntries) → AllByRecursion (λ y. path_cmp k y ≡ Less) (keys_of es) → NonePasses (is_at (path_cmp k)) es
below_all k [] h = tt
below_all k (e ∷ es) h = (ap is_eq h.0, below_all k es h.1)

-- the pair is there exactly where the group is one of the member's
pub contains-pairs_in : (es : GroupEntries) → IsStrictlySortedBy path_cmp (keys_of es) → (group member : List ℕ)
    → set.contains (pairs_in es) (record { group = group; member = member }) ≡ set.contains (groups_at es member) group
contains-pairs_in es sorted group member =
    set.contains-from_list memberships_total (flat_map pairs_of es) (record { group = group; member = member }) ∙ any_pair es sorted
  where
    pair : Membership
    pair = record { group = group; member = member }

    any_pair : (es : GroupEntries) → IsStrictlySortedBy path_cmp (keys_of es) → list_any (eq_by_cmp membership_cmp pair) (flat_map pairs_of es) ≡ set.contains (groups_at es member) group
    any_pair [] sorted = sym (set.contains-empty path_cmp group)
    any_pair (e ∷ es) sorted =
        list_any-append (eq_by_cmp membership_cmp pair) (pairs_of e) (flat_map pairs_of es)
        ∙ (λ i. of_member group member e.0 (set.items e.1) i || any_pair es (sorted_tail path_cmp e.0 (keys_of es) sorted) i)
        ∙ head (is_at (path_cmp member) e.0) refl
      where
        or_false : (b : Bool) → (b || false) ≡ b
        or_false true = refl
        or_false false = refl

        rest_none : is_at (path_cmp member) e.0 ≡ true → set.contains (groups_at es member) group ≡ false
        rest_none tie =
            let same : member ≡ e.0 = tied member e.0 tie in
            let none : lookup (is_at (path_cmp e.0)) es ≡ None = lookup-none (is_at (path_cmp e.0)) es (below_all e.0 es (sorted_head path_cmp e.0 (keys_of es) sorted)) in
            ap (λ m. set.contains (groups_at es m) group) same ∙ ap (λ o. set.contains (unwrap_or o set.empty) group) none ∙ set.contains-empty path_cmp group

        head : (b : Bool) → is_at (path_cmp member) e.0 ≡ b
            → ((b && list_any (eq_by_cmp path_cmp group) (set.items e.1)) || set.contains (groups_at es member) group)
            ≡ set.contains (unwrap_or (cond b (Some e.1) (lookup (is_at (path_cmp member)) es)) set.empty) group
        head true tie = ap (λ b. list_any (eq_by_cmp path_cmp group) (set.items e.1) || b) (rest_none tie) ∙ or_false _ ∙ sym (set.contains-items e.1 group)
        head false tie = refl

-- ---- one pair more
-- entries that differ at one member by one group have one pair more
pub added_is_insert : (old new : GroupEntries) → IsStrictlySortedBy path_cmp (keys_of old) → IsStrictlySortedBy path_cmp (keys_of new) → (group member : List ℕ)
    → ((q : List ℕ) → lookup (is_at (path_cmp q)) new ≡ cond (is_at (path_cmp member) q) (Some (set.insert (groups_at old member) group)) (lookup (is_at (path_cmp q)) old))
    → pairs_in new ≡ set.insert (pairs_in old) (record { group = group; member = member })
added_is_insert old new sorted sorted' group member updated = set.same_set memberships_total memberships_exact _ _ (λ e.
    contains-pairs_in new sorted' e.group e.member ∙ ap (λ o. set.contains (unwrap_or o set.empty) e.group) (updated e.member) ∙ at e (is_at (path_cmp member) e.member) refl
    ∙ (λ i. sym (same_pair e) i || sym (contains-pairs_in old sorted e.group e.member) i)
    ∙ sym (set.contains-insert memberships_total (pairs_in old) (record { group = group; member = member }) e))
  where
    with_true : (a b : Bool) → b ≡ true → a ≡ (a && b)
    with_true true b h = sym h
    with_true false b h = refl

    with_false : (a b : Bool) → b ≡ false → false ≡ (a && b)
    with_false true b h = sym h
    with_false false b h = refl

    same_pair : (e : Membership) → eq_by_cmp membership_cmp e (record { group = group; member = member }) ≡ (bytes_eq group e.group && bytes_eq member e.member)
    same_pair e = same_membership (record { group = group; member = member }) e

    at : (e : Membership) (b : Bool) → is_at (path_cmp member) e.member ≡ b
        → set.contains (unwrap_or (cond b (Some (set.insert (groups_at old member) group)) (lookup (is_at (path_cmp e.member)) old)) set.empty) e.group
        ≡ ((bytes_eq group e.group && bytes_eq member e.member) || set.contains (groups_at old e.member) e.group)
    at e true tie =
        let same : member ≡ e.member = tied member e.member tie in
        set.contains-insert nat_list_cmp_total (groups_at old member) group e.group
        ∙ (λ i. (is_eq-slice_cmp e.group group ∙ nat_list_eq_equiv.symm e.group group) i || set.contains (groups_at old (same i)) e.group)
        ∙ ap (λ b. b || set.contains (groups_at old e.member) e.group) (with_true (bytes_eq group e.group) (bytes_eq member e.member) (sym (is_eq-slice_cmp member e.member) ∙ tie))
    at e false tie = ap (λ b. b || set.contains (groups_at old e.member) e.group) (with_false (bytes_eq group e.group) (bytes_eq member e.member) (sym (is_eq-slice_cmp member e.member) ∙ tie))

-- entries that answer alike have the same pairs
pub same_pairs : (old new : GroupEntries) → IsStrictlySortedBy path_cmp (keys_of old) → IsStrictlySortedBy path_cmp (keys_of new)
    → ((q : List ℕ) → lookup (is_at (path_cmp q)) new ≡ lookup (is_at (path_cmp q)) old) → pairs_in new ≡ pairs_in old
same_pairs old new sorted sorted' same = set.same_set memberships_total memberships_exact _ _ (λ e.
    contains-pairs_in new sorted' e.group e.member ∙ ap (λ o. set.contains (unwrap_or o set.empty) e.group) (same e.member)
    ∙ sym (contains-pairs_in old sorted e.group e.member))

-- a member's groups that are written back as they were change nothing
pub written_back : (es : GroupEntries) (member : List ℕ) (groups : set.FinSet path_cmp) → Some groups ≡ lookup (is_at (path_cmp member)) es
    → (q : List ℕ) → cond (is_at (path_cmp member) q) (Some groups) (lookup (is_at (path_cmp q)) es) ≡ lookup (is_at (path_cmp q)) es
written_back es member groups there q = go (is_at (path_cmp member) q) refl
  where
    go : (b : Bool) → is_at (path_cmp member) q ≡ b → cond b (Some groups) (lookup (is_at (path_cmp q)) es) ≡ lookup (is_at (path_cmp q)) es
    go true tie = there ∙ ap (λ m. lookup (is_at (path_cmp m)) es) (tied member q tie)
    go false tie = refl

-- a pair that is there changes nothing
pub inserted_again : (pairs : set.FinSet membership_cmp) (e : Membership) → set.contains pairs e ≡ true → pairs ≡ set.insert pairs e
inserted_again pairs e there = set.same_set memberships_total memberships_exact _ _ (λ q. go q (eq_by_cmp membership_cmp q e) refl ∙ sym (set.contains-insert memberships_total pairs e q))
  where
    go : (q : Membership) (b : Bool) → eq_by_cmp membership_cmp q e ≡ b → set.contains pairs q ≡ (b || set.contains pairs q)
    go q true tie =
        let both = and_parts (bytes_eq e.group q.group) (bytes_eq e.member q.member) (sym (same_membership e q) ∙ tie) in
        let same : e ≡ q = λ i. record { group = same_path e.group q.group both.0 i; member = same_path e.member q.member both.1 i } in
        ap (set.contains pairs) (sym same) ∙ there
    go q false tie = refl

-- ---- a list of the pairs

-- whether a pair is among those of a member with some groups depends on the set of the groups alone
among : (q : Membership) (k : List ℕ) (groups : List (List ℕ)) (s : set.FinSet path_cmp) → s ≡ set.from_list groups
    → list_any (eq_by_cmp membership_cmp q) (memberships_in k groups) ≡ list_any (eq_by_cmp membership_cmp q) (pairs_of (k, s))
among q k groups s is =
    of_member q.group q.member k groups
    ∙ ap (λ b. is_at (path_cmp q.member) k && b)
    (sym (set.contains-from_list nat_list_cmp_total groups q.group) ∙ ap (λ t. set.contains t q.group) (sym is) ∙ set.contains-items s q.group)
    ∙ sym (of_member q.group q.member k (set.items s))

-- a member's pairs may be listed in any order
pub listed_next : (list : List Membership) (k : List ℕ) (s : set.FinSet path_cmp) (rest : List Membership) (groups : List (List ℕ)) (new : List Membership)
    → s ≡ set.from_list groups → new ≡ list ++ memberships_in k groups → set_of (new ++ rest) ≡ set_of (list ++ (pairs_of (k, s) ++ rest))
listed_next list k s rest groups new is e = ap (λ l. set_of (l ++ rest)) e ∙ set.same_set memberships_total memberships_exact _ _ (λ q.
    set.contains-from_list memberships_total ((list ++ memberships_in k groups) ++ rest) q
    ∙ list_any-append (eq_by_cmp membership_cmp q) (list ++ memberships_in k groups) rest
    ∙ ap (λ b. b || list_any (eq_by_cmp membership_cmp q) rest) (list_any-append (eq_by_cmp membership_cmp q) list (memberships_in k groups) ∙ ap (λ b. list_any (eq_by_cmp membership_cmp q) list || b) (among q k groups s is))
    ∙ or_assoc (list_any (eq_by_cmp membership_cmp q) list) _ _
    ∙ sym (set.contains-from_list memberships_total (list ++ (pairs_of (k, s) ++ rest)) q
    ∙ list_any-append (eq_by_cmp membership_cmp q) list (pairs_of (k, s) ++ rest)
    ∙ ap (λ b. list_any (eq_by_cmp membership_cmp q) list || b) (list_any-append (eq_by_cmp membership_cmp q) (pairs_of (k, s)) rest)))
  where
    or_assoc : (a b c : Bool) → ((a || b) || c) ≡ (a || (b || c))
    or_assoc true b c = refl
    or_assoc false b c = refl
