-- The members of a group, in byte order.
use Rattle.book_dumps.proofs.Common.{◌≡◌, inl, inr, ℕ, List, [], ◌∷◌, refl, sym, ap, ◌∙◌, subst, map, Some}
use Rattle.std.proofs.Common.{◌&&◌, true, false, Bool, Less, true≢false}
use Rattle.std.specs.Cmp.{tied_itself}
use Rattle.std.specs.Cmp.Lexicographic.{nat_list_cmp_total, slice_cmp}
use Rattle.std.specs.FinMap.{FinMap, entries, from_entries, get, get-from_entries, keys, same_map}
use Rattle.std.specs.FinSet as set
use Rattle.std.specs.List.{AllByRecursion}
use Rattle.std.specs.List.Sorted.{IsStrictlySortedBy}
use Rattle.std.specs.Map.{keys_of}
use Rattle.std.specs.Ordering.{eq_by_cmp, nat_cmp, ordering_then}
use Rattle.std.specs.Str.{bytes_eq}
use Rattle.book_lists.proofs.Closures.{any_mem}
use Rattle.book_lists.proofs.Elements.{tied}
use Rattle.book_lists.proofs.Pairing.{memberships_exact, memberships_total, path_itself, same_path, same_membership}
use Rattle.book_lists.specs.Memberships.{Memberships, membership_cmp, members_of, set_of}
use Rattle.book_lists.specs.Principals.{path_cmp}
use Rattle.book_lists.specs.declared.memberships.Membership.{Membership}
use Rattle.book_office_values.proofs.Members.{find_mem, get_mem, mem_get, mem_some}
use Rattle.book_office_values.proofs.NameMapLaws.{names_apart}
use Rattle.book_office_values.proofs.TreeMaps.{entries_tree}
use Rattle.book_dumps.specs.Told.{in_order, members_told}
use Rattle.book_dumps.proofs.Among.{Mem, both_options, mem_any, mem_map, mem_of_map}

-- ---- texts in order
abbrev keyed : List (List ℕ) → List (List ℕ × Unit {0})
keyed texts = map (λ (text : List ℕ). (text, tt {0})) texts

abbrev key_map : List (List ℕ) → FinMap path_cmp (Unit {0})
key_map texts = from_entries (keyed texts)

keyed_there : (text : List ℕ) (texts : List (List ℕ)) → Mem text texts → get (key_map texts) text ≡ Some (tt {0})
keyed_there text texts m =
    let found = mem_some nat_list_cmp_total names_apart (keyed texts) text tt (mem_map (λ (t : List ℕ). (t, tt {0})) text texts m) in
    get-from_entries nat_list_cmp_total (keyed texts) text ∙ found.1

there_keyed : (text : List ℕ) (texts : List (List ℕ)) (u : Unit {0}) → get (key_map texts) text ≡ Some u → Mem text texts
there_keyed text texts u e =
    let m = find_mem nat_list_cmp_total names_apart (keyed texts) text u (sym (get-from_entries nat_list_cmp_total (keyed texts) text) ∙ e) in
    let h = mem_of_map (λ (t : List ℕ). (t, tt {0})) (text, u) texts m in
    subst (λ x. Mem x texts) (sym (ap (λ p. p.0) h.2)) h.1

pub ordered_among : (text : List ℕ) (texts : List (List ℕ)) → Mem text texts → Mem text (in_order texts)
ordered_among text texts m =
    mem_map (λ (e : List ℕ × Unit {0}). e.0) (text, tt) (entries (key_map texts)) (get_mem nat_list_cmp_total names_apart (key_map texts) text tt (keyed_there text texts m))

pub among_ordered : (text : List ℕ) (texts : List (List ℕ)) → Mem text (in_order texts) → Mem text texts
among_ordered text texts m =
    let e = mem_of_map (λ (e : List ℕ × Unit {0}). e.0) text (entries (key_map texts)) m in
    subst (λ x. Mem x texts) (sym e.2) (there_keyed e.0.0 texts e.0.1 (mem_get nat_list_cmp_total names_apart (key_map texts) e.0.0 e.0.1 e.1))

keys_keyed : (texts : List (List ℕ)) → keys_of (keyed texts) ≡ texts
keys_keyed [] = refl
keys_keyed (t ∷ texts) = ap (λ rest. t ∷ rest) (keys_keyed texts)

firsts_keyed : (texts : List (List ℕ)) → map (λ (e : List ℕ × Unit {0}). e.0) (keyed texts) ≡ texts
firsts_keyed [] = refl
firsts_keyed (t ∷ texts) = ap (λ rest. t ∷ rest) (firsts_keyed texts)

-- texts that rise are in order
in_order_already : (texts : List (List ℕ)) → IsStrictlySortedBy path_cmp texts → in_order texts ≡ texts
in_order_already texts sorted =
    ap (λ es. map (λ (e : List ℕ × Unit {0}). e.0) es) (entries_tree nat_list_cmp_total names_apart (keyed texts) (subst (IsStrictlySortedBy path_cmp) (sym (keys_keyed texts)) sorted))
    ∙ firsts_keyed texts

-- texts with the same elements have one order
same_order : (ts us : List (List ℕ)) → ((t : List ℕ) → Mem t ts → Mem t us) → ((t : List ℕ) → Mem t us → Mem t ts) → in_order ts ≡ in_order us
same_order ts us to back =
    ap (λ (m : FinMap path_cmp (Unit {0})). keys m) (same_map nat_list_cmp_total names_apart (key_map ts) (key_map us) (λ q.
    both_options (get (key_map ts) q) (get (key_map us) q) (λ u e. keyed_there q us (to q (there_keyed q ts u e))) (λ u e. keyed_there q ts (back q (there_keyed q us u e)))))

-- ---- the pairs of one group
pub contains_members : (pairs : Memberships) (group : List ℕ) (m : Membership) → set.contains (members_of pairs group) m ≡ (set.contains pairs m && bytes_eq m.group group)
contains_members pairs group m = set.contains-retain pairs (λ (x : Membership). bytes_eq x.group group) m (λ x e. ap (λ (y : Membership). bytes_eq y.group group) (sym (memberships_exact m x e)))

and_true : (a b : Bool) → a ≡ true → b ≡ true → (a && b) ≡ true
and_true true true p q = refl
and_true true false p q = q
and_true false b p q = p

and_second : (a b : Bool) → (a && b) ≡ true → b ≡ true
and_second true b h = h
and_second false b h = absurd (true≢false (sym h))

itself : (m : Membership) → eq_by_cmp membership_cmp m m ≡ true
itself m = same_membership m m ∙ and_true (bytes_eq m.group m.group) (bytes_eq m.member m.member) (path_itself m.group) (path_itself m.member)

item_of : (pairs : Memberships) (m : Membership) → set.contains pairs m ≡ true → Mem m (set.items pairs)
item_of pairs m has =
    let any = any_mem (eq_by_cmp membership_cmp m) (set.items pairs) (sym (set.contains-items pairs m) ∙ has) in
    subst (λ x. Mem x (set.items pairs)) (sym (memberships_exact m any.0 (tied _ any.2))) any.1

of_item : (pairs : Memberships) (m : Membership) → Mem m (set.items pairs) → set.contains pairs m ≡ true
of_item pairs m h = set.contains-items pairs m ∙ mem_any (eq_by_cmp membership_cmp m) m (set.items pairs) h (itself m)

listed_of : (list : List Membership) (m : Membership) → set.contains (set_of list) m ≡ true → Mem m list
listed_of list m has =
    let any = any_mem (eq_by_cmp membership_cmp m) list (sym (set.contains-from_list memberships_total list m) ∙ has) in
    subst (λ x. Mem x list) (sym (memberships_exact m any.0 (tied _ any.2))) any.1

of_listed : (list : List Membership) (m : Membership) → Mem m list → set.contains (set_of list) m ≡ true
of_listed list m h = set.contains-from_list memberships_total list m ∙ mem_any (eq_by_cmp membership_cmp m) m list h (itself m)

abbrev pub member_of : Membership → List ℕ
member_of m = m.member

pub among_told : (pairs : Memberships) (m : Membership) → set.contains pairs m ≡ true → Mem m.member (members_told pairs)
among_told pairs m has = ordered_among m.member (map member_of (set.items pairs)) (mem_map member_of m (set.items pairs) (item_of pairs m has))

pub told_among : (pairs : Memberships) (member : List ℕ) → Mem member (members_told pairs) → (m : Membership) × (set.contains pairs m ≡ true) × (member ≡ m.member)
told_among pairs member h =
    let m = mem_of_map member_of member (set.items pairs) (among_ordered member (map member_of (set.items pairs)) h) in
    (m.0, of_item pairs m.0 m.1, m.2)

-- pairs of one group in order: their members are in order
member_below : (m n : Membership) → m.group ≡ n.group → membership_cmp m n ≡ Less → path_cmp m.member n.member ≡ Less
member_below m n same below =
    sym (ap (λ o. ordering_then o (path_cmp m.member n.member)) (ap (slice_cmp nat_cmp m.group) (sym same) ∙ tied_itself nat_list_cmp_total m.group)) ∙ below

members_below : (m : Membership) (ms : List Membership) → ((x : Membership) → Mem x ms → m.group ≡ x.group) → AllByRecursion (λ y. membership_cmp m y ≡ Less) ms
    → AllByRecursion (λ y. path_cmp m.member y ≡ Less) (map member_of ms)
members_below m [] same h = tt
members_below m (n ∷ ms) same h = (member_below m n (same n (inl refl)) h.0, members_below m ms (λ x k. same x (inr k)) h.1)

members_sorted : (group : List ℕ) (ms : List Membership) → ((x : Membership) → Mem x ms → x.group ≡ group) → IsStrictlySortedBy membership_cmp ms → IsStrictlySortedBy path_cmp (map member_of ms)
unfolding IsStrictlySortedBy
members_sorted group [] same sorted = tt
members_sorted group (m ∷ ms) same sorted = (
  members_below m ms (λ x k. same m (inl refl) ∙ sym (same x (inr k))) sorted.0,
  members_sorted group ms (λ x k. same x (inr k)) sorted.1,
)

-- the members of the list of the pairs of one group
pub listed_members : (all pairs : Memberships) (group : List ℕ) (list : List Membership) → pairs ≡ members_of all group → set_of list ≡ pairs → IsStrictlySortedBy membership_cmp list
    → map member_of list ≡ members_told pairs
listed_members all pairs group list of_group is sorted =
    let same_group : (x : Membership) → Mem x list → x.group ≡ group =
    λ x m. same_path x.group group (and_second _ _ (sym (contains_members all group x) ∙ ap (λ s. set.contains s x) (sym (is ∙ of_group)) ∙ of_listed list x m)) in
    sym (in_order_already (map member_of list) (members_sorted group list same_group sorted))
    ∙ same_order (map member_of list) (map member_of (set.items pairs))
    (λ t m. let x = mem_of_map member_of t list m in
    subst (λ y. Mem y (map member_of (set.items pairs))) (sym x.2) (mem_map member_of x.0 (set.items pairs) (item_of pairs x.0 (ap (λ s. set.contains s x.0) (sym is) ∙ of_listed list x.0 x.1))))
    (λ t m. let x = mem_of_map member_of t (set.items pairs) m in
    subst (λ y. Mem y (map member_of list)) (sym x.2) (mem_map member_of x.0 list (listed_of list x.0 (ap (λ s. set.contains s x.0) is ∙ of_item pairs x.0 x.1))))
