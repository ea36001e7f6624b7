-- Memberships as the keys of a set, and their paths.
use Rattle.book_lists.proofs.Common.{◌≡◌, ℕ, true, ◌&&◌, List, [], ◌∷◌, ◌++◌, Ok, refl, sym, ap, ◌∙◌, same_set, list_any, nat_cmp, is_eq, eq_by_cmp, bytes_eq, Less, slice_cmp, and_parts, nat_list_cmp_total, nat_list_eq_equiv, is_eq-slice_cmp, membership_cmp, set_of}
use Rattle.std.proofs.Common.{Vec, Result, Err, IfOk}
use Rattle.std.specs.Cmp.{IsTotalOrder}
use Rattle.std.specs.FinSet.{insert, contains-from_list, from_list_push, IsAntisymmetric}
use Rattle.std.specs.Ordering.{ordering_then}
use Rattle.std.specs.declared.cmp.Ordering.{Ordering}
use Rattle.std.specs.declared.cmp.Ordering.TheVariants.{Equal, Greater}
use Rattle.std.proofs.lemmas.Cmp.{then_total, on_total}
use Rattle.std.proofs.lemmas.Slice.Eq.{bytes_eq-Decides}
use Rattle.book_lists.specs.declared.memberships.Membership.{Membership}

pub memberships_total : IsTotalOrder membership_cmp
memberships_total = then_total (on_total (λ e. e.group) nat_list_cmp_total) (on_total (λ e. e.member) nat_list_cmp_total)

-- ---- paths
pub same_path : (xs ys : List ℕ) → bytes_eq xs ys ≡ true → xs ≡ ys
same_path xs ys h = (bytes_eq-Decides xs ys).0 h

pub path_itself : (xs : List ℕ) → bytes_eq xs xs ≡ true
path_itself xs = (bytes_eq-Decides xs xs).1 refl

-- ---- memberships
pub is_eq-then : (a b : Ordering) → is_eq (ordering_then a b) ≡ (is_eq a && is_eq b)
is_eq-then Less b = refl
is_eq-then Equal b = refl
is_eq-then Greater b = refl

pub same_membership : (e q : Membership) → eq_by_cmp membership_cmp q e ≡ (bytes_eq e.group q.group && bytes_eq e.member q.member)
same_membership e q =
    is_eq-then (slice_cmp nat_cmp q.group e.group) (slice_cmp nat_cmp q.member e.member)
    ∙ (λ i. (is_eq-slice_cmp q.group e.group ∙ nat_list_eq_equiv.symm q.group e.group) i
    && (is_eq-slice_cmp q.member e.member ∙ nat_list_eq_equiv.symm q.member e.member) i)

-- memberships that compare alike are one
pub memberships_exact : IsAntisymmetric membership_cmp
memberships_exact x y e =
    let both = and_parts _ _ (sym (same_membership y x) ∙ ap is_eq e) in
    let g : y.group ≡ x.group = same_path _ _ both.0 in
    let m : y.member ≡ x.member = same_path _ _ both.1 in
    λ i. record { group = sym g i; member = sym m i }

pub push_is_insert : (es : List Membership) (e : Membership) → set_of (es ++ e ∷ []) ≡ insert (set_of es) e
push_is_insert es e = from_list_push memberships_total memberships_exact es e

-- lists with the same members have the same pairs
pub collected : (es fs : List Membership) → ((q : Membership) → list_any (eq_by_cmp membership_cmp q) fs ≡ list_any (eq_by_cmp membership_cmp q) es) → set_of fs ≡ set_of es
collected es fs same = same_set memberships_total memberships_exact _ _ (λ q.
    contains-from_list memberships_total fs q ∙ same q ∙ sym (contains-from_list memberships_total es q))

-- a vector that was collected from such a list
pub collected_in : {Z E : Type 0} (r : Result (Vec Membership Z) E) (es fs : List Membership)
    → ((q : Membership) → list_any (eq_by_cmp membership_cmp q) fs ≡ list_any (eq_by_cmp membership_cmp q) es)
    → IfOk r (λ v. v.items ≡ fs) → IfOk r (λ v. set_of v.items ≡ set_of es)
collected_in (Ok v) es fs same is = ap set_of is ∙ collected es fs same
collected_in (Err e) es fs same is = tt
