-- The closure of memberships, grown member by member.
use Rattle.book_lists.proofs.Common.{◌≡◌, ℕ, zero, suc, map, slice_get, ◌+◌, length, arith, Bool, true, false, cond, ◌&&◌, ◌||◌, List, [], ◌∷◌, ◌++◌, unwrap_or, Some, None, inl, inr, ◌↔◌, refl, sym, ap, subst, ◌∙◌, is_at, list_any, lookup, eq_by_cmp, is_eq, bytes_eq, Less, false≢true, nat_list_cmp_total, nat_list_eq_equiv, is_eq-slice_cmp, has_path, groups_at, pairs_in, membership_cmp, path_cmp}
use mathlib.Core.Bool.{or-false}
use Rattle.std.specs.FinSet as set
use Rattle.std.specs.List.{AllByRecursion}
use Rattle.std.specs.List.Sorted.{IsStrictlySortedBy}
use Rattle.std.specs.Map.{keys_of}
use Rattle.std.proofs.lemmas.Bool.{and_from, or_cases, or_left, or_right, or_parts, false_from_ne_true}
use Rattle.std.proofs.lemmas.List.Folds.{list_any-append}
use Rattle.std.proofs.lemmas.Map.{lookup-none, NonePasses}
use Rattle.std.proofs.lemmas.Map.Keys.{sorted_head, sorted_tail}
use Rattle.book_lists.specs.GroupEntries.{GroupEntries, memberships_in}
use Rattle.book_lists.specs.Memberships.{Memberships, IsDirect, Descends, Chain, Belongs, GetsGroups, IsReachOf, with_pairs}
use Rattle.book_lists.specs.PrincipalSets.{AreKnown, Grows, GrowsAt, IsAbove, IsCount, IsFound}
use Rattle.book_lists.specs.declared.memberships.Membership.{Membership}
use Rattle.book_lists.proofs.GroupLists.{contains-pairs_in, of_member, tied}
use Rattle.book_lists.proofs.Pairing.{memberships_total, memberships_exact, path_itself, same_membership, same_path}
use Rattle.book_lists.proofs.Searches.{either_first}

-- ---- chains by their last membership

module _ (pairs : Memberships) where
  -- a way down goes on by one membership more
  descends_on : (q : List ℕ) (ms : List (List ℕ)) (s member : List ℕ) → Descends pairs q ms s → IsDirect pairs s member → Descends pairs q (ms ++ member ∷ []) member
  descends_on q [] s member same pair = (subst (λ g. IsDirect pairs g member) (sym same) pair, refl)
  descends_on q (m ∷ ms) s member d pair = (d.0, descends_on m ms s member d.1 pair)

  -- to whom one of its direct groups belongs a chain leads from it
  chain_from : (q s member : List ℕ) → IsDirect pairs s member → Belongs pairs s q → Chain pairs member q
  chain_from q s member pair (inl same) = (member, [], (subst (λ g. IsDirect pairs g member) same pair, refl))
  chain_from q s member pair (inr chain) = (chain.0, chain.1 ++ member ∷ [], (chain.2.0, descends_on chain.0 chain.1 s member chain.2.1 pair))

  -- a chain comes by one of the direct groups
  last_pair : (q m : List ℕ) (ms : List (List ℕ)) (member : List ℕ) → IsDirect pairs q m → Descends pairs m ms member → (s : List ℕ) × IsDirect pairs s member × Belongs pairs s q
  last_pair q m [] member pair same = (q, subst (IsDirect pairs q) same pair, inl refl)
  last_pair q m (n ∷ ms) member pair d =
      let last = last_pair m n ms member d.0 d.1 in
      (last.0, last.1, higher last.0 last.2)
    where
      higher : (s : List ℕ) → Belongs pairs s m → Belongs pairs s q
      higher s (inl same) = inr (m, [], (pair, sym same))
      higher s (inr chain) = inr (m, chain.0 ∷ chain.1, (pair, chain.2))

  pub by_last : (q member : List ℕ) → Chain pairs member q → (s : List ℕ) × IsDirect pairs s member × Belongs pairs s q
  by_last q member chain = last_pair q chain.0 chain.1 member chain.2.0 chain.2.1

  -- what was found from the direct groups of a member is above it
  pub found_above : (member : List ℕ) (starts : List (List ℕ)) (found : set.FinSet path_cmp) → ((q : List ℕ) → (has_path starts q ≡ true) ↔ IsDirect pairs q member)
      → IsFound pairs starts found → IsAbove pairs member found
  found_above member starts found direct is q = (
    λ has. let from = (is q).0 has in chain_from q from.0 member ((direct from.0).0 from.1) from.2,
    λ chain. let last = by_last q member chain in (is q).1 (last.0, (direct last.0).1 last.1, last.2),
  )

-- ---- a path of a list once more

has_itself : (ps : List (List ℕ)) (i : ℕ) (p : List ℕ) → slice_get ps i ≡ Some p → has_path ps p ≡ true
has_itself [] i p e = absurd cc
has_itself (x ∷ ps) zero p e = let same : x ≡ p = cc in or_left (bytes_eq x p) (has_path ps p) (ap (bytes_eq x) (sym same) ∙ path_itself x)
has_itself (x ∷ ps) (suc i) p e = or_right (bytes_eq x p) (has_path ps p) (has_itself ps i p e)

pub get_map : {A B : Type 0} (f : A → B) (xs : List A) (i : ℕ) (x : A) → slice_get xs i ≡ Some x → slice_get (map f xs) i ≡ Some (f x)
get_map f [] i x e = absurd cc
get_map f (y ∷ xs) zero x e = let same : y ≡ x = cc in ap (λ z. Some (f z)) same
get_map f (y ∷ xs) (suc i) x e = get_map f xs i x e

pub once_more : (ps : List (List ℕ)) (i : ℕ) (p : List ℕ) → slice_get ps i ≡ Some p → (q : List ℕ) → has_path (ps ++ p ∷ []) q ≡ has_path ps q
once_more ps i p e q = list_any-append (λ x. bytes_eq x q) ps (p ∷ []) ∙ go (bytes_eq p q) refl
  where
    go : (b : Bool) → bytes_eq p q ≡ b → (has_path ps q || (b || false)) ≡ has_path ps q
    go true same =
        let is : has_path ps q ≡ true = ap (has_path ps) (sym (same_path p q same)) ∙ has_itself ps i p e in
        or_right (has_path ps q) true refl ∙ sym is
    go false other = or-false (has_path ps q)

-- ---- some pairs more

contains-with : (list : List Membership) (pairs : Memberships) (q : Membership) → set.contains (with_pairs list pairs) q ≡ (list_any (eq_by_cmp membership_cmp q) list || set.contains pairs q)
contains-with [] pairs q = refl
contains-with (m ∷ more) pairs q =
    contains-with more (set.insert pairs m) q
    ∙ ap (λ b. list_any (eq_by_cmp membership_cmp q) more || b) (set.contains-insert memberships_total pairs m q)
    ∙ either_first (list_any (eq_by_cmp membership_cmp q) more) (eq_by_cmp membership_cmp q m) (set.contains pairs q)

abbrev NoneOf : Memberships → List ℕ → List (List ℕ) → Type 0
NoneOf pairs member groups = AllByRecursion (λ group. set.contains pairs (record { group = group; member = member }) ≡ false) groups

still_none : (pairs : Memberships) (member group : List ℕ) (groups : List (List ℕ)) → AllByRecursion (λ y. path_cmp group y ≡ Less) groups → NoneOf pairs member groups
    → NoneOf (set.insert pairs (record { group = group; member = member })) member groups
still_none pairs member group [] less none = tt
still_none pairs member group (g ∷ gs) less none = (
  set.contains-insert memberships_total pairs (record { group = group; member = member }) (record { group = g; member = member })
      ∙ (λ i. (same_membership (record { group = group; member = member }) (record { group = g; member = member }) ∙ ap (λ b. b && bytes_eq member member) (sym (is_eq-slice_cmp group g) ∙ ap is_eq less.0)) i || none.0 i),
  still_none pairs member group gs less.1 none.1,
)

-- groups that a member had not are so many pairs more
pub len-with : (pairs : Memberships) (member : List ℕ) (groups : List (List ℕ)) → IsStrictlySortedBy path_cmp groups → NoneOf pairs member groups → set.len (with_pairs (memberships_in member groups) pairs) ≡ set.len pairs + length groups
len-with pairs member [] sorted none = omega arith
len-with pairs member (g ∷ gs) sorted none =
    let one : set.len (set.insert pairs (record { group = g; member = member })) ≡ set.len pairs + 1 =
    set.len-insert memberships_total pairs (record { group = g; member = member }) ∙ ap (λ b. cond b (set.len pairs) (set.len pairs + 1)) none.0 in
    let rest = len-with (set.insert pairs (record { group = g; member = member })) member gs (sorted_tail path_cmp g gs sorted) (still_none pairs member g gs (sorted_head path_cmp g gs sorted) none.1) in
    omega (arith, one, rest)

all_none : (pairs : Memberships) (member : List ℕ) → ((group : List ℕ) → IsDirect pairs group member → ⊥) → (groups : List (List ℕ)) → NoneOf pairs member groups
all_none pairs member none [] = tt
all_none pairs member none (g ∷ gs) = (false_from_ne_true _ (none g), all_none pairs member none gs)

-- entries with those of one member more
pub gets_groups : (old new : GroupEntries) → IsStrictlySortedBy path_cmp (keys_of old) → IsStrictlySortedBy path_cmp (keys_of new) → (member : List ℕ) (groups : set.FinSet path_cmp)
    → ((group : List ℕ) → IsDirect (pairs_in old) group member → ⊥)
    → ((q : List ℕ) → lookup (is_at (path_cmp q)) new ≡ cond (is_at (path_cmp member) q) (Some groups) (lookup (is_at (path_cmp q)) old)) → GetsGroups (pairs_in old) member (set.contains groups) (pairs_in new)
gets_groups old new sorted sorted' member groups none updated group p =
    contains-pairs_in new sorted' group p ∙ ap (λ o. set.contains (unwrap_or o set.empty) group) (updated p) ∙ at (is_at (path_cmp member) p) refl
  where
    turned : is_at (path_cmp member) p ≡ bytes_eq p member
    turned = is_eq-slice_cmp member p ∙ nat_list_eq_equiv.symm member p

    at : (b : Bool) → is_at (path_cmp member) p ≡ b → set.contains (unwrap_or (cond b (Some groups) (lookup (is_at (path_cmp p)) old)) set.empty) group
        ≡ ((bytes_eq p member && set.contains groups group) || set.contains (pairs_in old) (record { group = group; member = p }))
    at true tie =
        let absent : set.contains (pairs_in old) (record { group = group; member = p }) ≡ false = subst (λ m. set.contains (pairs_in old) (record { group = group; member = m }) ≡ false) (tied member p tie) (false_from_ne_true _ (none group)) in
        sym (or-false (set.contains groups group)) ∙ (λ i. ((sym tie ∙ turned) i && set.contains groups group) || sym absent i)
    at false tie = sym (contains-pairs_in old sorted group p) ∙ (λ i. ((sym tie ∙ turned) i && set.contains groups group) || set.contains (pairs_in old) (record { group = group; member = p }))

-- and so many pairs more
pub len-gets : (old new : Memberships) (member : List ℕ) (groups : set.FinSet path_cmp) (number : ℕ) → ((group : List ℕ) → IsDirect old group member → ⊥) → IsCount groups number → GetsGroups old member (set.contains groups) new
    → set.len new ≡ set.len old + number
len-gets old new member groups number none count gets =
    let same : new ≡ with_pairs (memberships_in member count.keys) old = set.same_set memberships_total memberships_exact _ _ (λ e.
    gets e.group e.member
    ∙ (λ i. (sym (is_eq-slice_cmp e.member member) i && (ap (λ s. set.contains s e.group) count.are ∙ set.contains-from_list nat_list_cmp_total count.keys e.group) i) || set.contains old e)
    ∙ ap (λ b. b || set.contains old e) (sym (of_member e.group e.member member count.keys))
    ∙ sym (contains-with (memberships_in member count.keys) old e)) in
    let more = len-with old member count.keys count.rising (all_none old member none count.keys) in
    let counted = count.counted in
    let whole : set.len new ≡ set.len (with_pairs (memberships_in member count.keys) old) = ap set.len same in
    omega (arith, whole, more, counted)

-- ---- the closure, member by member

abbrev pub is_key : GroupEntries → List ℕ → Bool
is_key es p = list_any (is_at (path_cmp p)) (keys_of es)

-- the closure so far: all pairs of each member that has some, and of each that is not still to come
pub record Reaches (pairs : Memberships) (rest : GroupEntries) (reach : Memberships) : Type 0 where
  pub known : AreKnown pairs reach
  pub past : (group p : List ℕ) → Chain pairs p group → is_key rest p ≡ false → IsDirect reach group p

none_passes : (es : GroupEntries) (p : List ℕ) → is_key es p ≡ false → NonePasses (is_at (path_cmp p)) es
none_passes [] p h = tt
none_passes (e ∷ es) p h = let parts = or_parts (is_at (path_cmp p) e.0) (is_key es p) h in (parts.0, none_passes es p parts.1)

-- who is no key is a member of no group
no_chain : (es : GroupEntries) → IsStrictlySortedBy path_cmp (keys_of es) → (group p : List ℕ) → is_key es p ≡ false → Chain (pairs_in es) p group → ⊥
no_chain es sorted group p absent chain =
    let last = by_last (pairs_in es) group p chain in
    let none : lookup (is_at (path_cmp p)) es ≡ None = lookup-none (is_at (path_cmp p)) es (none_passes es p absent) in
    let empty : set.contains (groups_at es p) last.0 ≡ false = ap (λ o. set.contains (unwrap_or o set.empty) last.0) none ∙ set.contains-empty path_cmp last.0 in
    false≢true (sym empty ∙ sym (contains-pairs_in es sorted last.0 p) ∙ last.1)

-- where nothing is known, that is whole
pub none_known : (pairs known : Memberships) → known ≡ set.empty → AreKnown pairs known
none_known pairs known empty member q direct =
    absurd (false≢true (sym (set.contains-empty membership_cmp (record { group = q; member = member })) ∙ sym (ap (λ (s : Memberships). set.contains s (record { group = q; member = member })) empty) ∙ direct))

pub reaches_begins : (es : GroupEntries) → IsStrictlySortedBy path_cmp (keys_of es) → Reaches (pairs_in es) es set.empty
reaches_begins es sorted = record { known = none_known (pairs_in es) set.empty refl; past = λ group p chain absent. absurd (no_chain es sorted group p absent chain) }

pub reaches_grow : (pairs old new : Memberships) (rest : GroupEntries) → Grows pairs old new → Reaches pairs rest old → Reaches pairs rest new
reaches_grow pairs old new rest g r = record { known = g.known; past = λ group p chain absent. g.kept group p (r.past group p chain absent) }

pub reaches_more : (pairs reach : Memberships) (member : List ℕ) (groups : set.FinSet path_cmp) (more : GroupEntries) (new : Memberships)
    → GrowsAt pairs member reach new → Reaches pairs ((member, groups) ∷ more) reach → Reaches pairs more new
reaches_more pairs reach member groups more new g r = record { known = g.known; past = λ group p chain absent. go group p chain absent (is_at (path_cmp p) member) refl }
  where
    go : (group p : List ℕ) → Chain pairs p group → is_key more p ≡ false → (b : Bool) → is_at (path_cmp p) member ≡ b → IsDirect new group p
    go group p chain absent true tie = let same : p ≡ member = tied p member tie in subst (IsDirect new group) (sym same) (g.whole group (subst (λ m. Chain pairs m group) same chain))
    go group p chain absent false tie = g.kept group p (r.past group p chain (ap (λ b. b || is_key more p) tie ∙ absent))

-- groups that are known of a member are all above it
pub known_above : (pairs known : Memberships) (member : List ℕ) (above : set.FinSet path_cmp) (paths : List (List ℕ)) → ((q : List ℕ) → set.contains above q ≡ set.contains known (record { group = q; member = member }))
    → (q : List ℕ) × (set.contains above q ≡ true) → AreKnown pairs known → above ≡ set.from_list paths → IsAbove pairs member (set.from_list paths)
known_above pairs known member above paths kept some are is =
    let whole = are member some.0 (sym (kept some.0) ∙ some.1) in
    subst (IsAbove pairs member) is (λ q. (λ h. (whole q).0 (sym (kept q) ∙ h), λ chain. kept q ∙ (whole q).1 chain))

-- nobody is still to come
pub reaches_end : (pairs reach : Memberships) → Reaches pairs [] reach → IsReachOf pairs reach
reaches_end pairs reach r group p = (λ has. (r.known p group has group).0 has, λ chain. r.past group p chain refl)

-- ---- a member is completed

-- it was whole
pub grows_same : (pairs reach : Memberships) (member : List ℕ) → AreKnown pairs reach → (q : List ℕ) × IsDirect reach q member → GrowsAt pairs member reach reach
grows_same pairs reach member known some = record {
  known = known;
  kept = λ group p has. has;
  whole = λ group chain. (known member some.0 some.1 group).1 chain;
}

-- it gets all that is above it
pub grows_at : (pairs reach : Memberships) (member : List ℕ) (above : set.FinSet path_cmp) (new : Memberships) → AreKnown pairs reach → ((group : List ℕ) → IsDirect reach group member → ⊥)
    → IsAbove pairs member above → GetsGroups reach member (set.contains above) new → GrowsAt pairs member reach new
grows_at pairs reach member above new known none is gets = record {
  known = λ p q direct r. go p q direct r (is_at (path_cmp p) member) refl;
  kept = λ group p has. contains-new group p ∙ or_right (is_at (path_cmp p) member && set.contains above group) _ has;
  whole = λ group chain. contains-new group member ∙ or_left (is_at (path_cmp member) member && set.contains above group) _ (and_from _ _ itself ((is group).1 chain));
}
  where
    contains-new : (group p : List ℕ) → set.contains new (record { group = group; member = p })
        ≡ ((is_at (path_cmp p) member && set.contains above group) || set.contains reach (record { group = group; member = p }))
    contains-new group p = gets group p ∙ ap (λ b. (b && set.contains above group) || set.contains reach (record { group = group; member = p })) (sym (is_eq-slice_cmp p member))

    itself : is_at (path_cmp member) member ≡ true
    itself = is_eq-slice_cmp member member ∙ path_itself member

    go : (p q : List ℕ) → IsDirect new q p → (r : List ℕ) (b : Bool) → is_at (path_cmp p) member ≡ b → IsDirect new r p ↔ Chain pairs p r
    go p q direct r true tie =
        let same : p ≡ member = tied p member tie in
        let has : set.contains new (record { group = r; member = p }) ≡ (set.contains above r || set.contains reach (record { group = r; member = p })) =
        contains-new r p ∙ ap (λ b. (b && set.contains above r) || set.contains reach (record { group = r; member = p })) tie in (
          λ there. elim (or_cases (set.contains above r) (set.contains reach (record { group = r; member = p })) (sym has ∙ there)) [
            | inl h ↦ subst (λ m. Chain pairs m r) (sym same) ((is r).0 h)
            | inr h ↦ absurd (none r (subst (IsDirect reach r) same h))
          ],
          λ chain. has ∙ or_left (set.contains above r) _ ((is r).1 (subst (λ m. Chain pairs m r) same chain)),
        )
    go p q direct r false tie =
        let has : (g : List ℕ) → set.contains new (record { group = g; member = p }) ≡ set.contains reach (record { group = g; member = p }) = λ g.
        contains-new g p ∙ ap (λ b. (b && set.contains above g) || set.contains reach (record { group = g; member = p })) tie in
        let old = known p q (sym (has q) ∙ direct) r in
        (λ there. old.0 (sym (has r) ∙ there), λ chain. has r ∙ old.1 chain)

pub grows_none : (pairs reach : Memberships) → AreKnown pairs reach → Grows pairs reach reach
grows_none pairs reach known = record { known = known; kept = λ group p has. has }

pub grows_then : (pairs a b c : Memberships) (member : List ℕ) → Grows pairs a b → GrowsAt pairs member b c → Grows pairs a c
grows_then pairs a b c member first second = record { known = second.known; kept = λ group p has. second.kept group p (first.kept group p has) }
