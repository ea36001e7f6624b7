-- What the values of properties are.
use Rattle.book_office_listings.proofs.Common.{◌≡◌, ℕ, zero, suc, ◌<◌, true, false, List, [], ◌∷◌, map, slice_get, Some, refl, sym, ap, ◌∙◌, subst, arith, Leaf, CircleOf, bears, Grants, membership_cmp, Entry, Here, bare_entries}
use Rattle.std.proofs.Common.{not, ◌&&◌, ◌||◌, filter}
use Rattle.std.specs.Prelude.{if◌then◌else◌}
use Rattle.std.specs.FinSet.{contains, contains-from_list}
use Rattle.std.specs.List.{AllByRecursion, list_any}
use Rattle.std.specs.List.Sorted.{IsStrictlySortedBy}
use Rattle.std.specs.Ordering.{eq_by_cmp, ordering_then}
use Rattle.std.specs.Cmp.{tied_itself}
use Rattle.std.specs.Cmp.Lexicographic.{nat_list_cmp_total}
use Rattle.std.specs.Str.{bytes_eq}
use Rattle.std.specs.declared.cmp.Ordering.TheVariants.{Less, Equal}
use Rattle.std.proofs.lemmas.Bool.{not-true}
use Rattle.book_lists.specs.Circles.{has_path}
use Rattle.book_lists.specs.Decisions.{Decides}
use Rattle.book_lists.specs.Principals.{path_cmp}
use Rattle.book_lists.specs.declared.memberships.Membership.{Membership}
use Rattle.book_lists.proofs.Pairing.{memberships_total, same_membership, same_path}
use Rattle.book_office_sync.specs.Copies.{grants}
use Rattle.book_office_listings.specs.Laws.{MembersToldAreDirect, PrivilegesToldAreGranted}
use Rattle.book_office_listings.specs.Values.{members_in}

-- ---- what is granted
module _ (circle : CircleOf) (here : Here) (leaf : Leaf) where
  later_first : (x : Entry) (xs : List Entry) (i : ℕ) → bears circle here leaf x ≡ false
      → ((k : ℕ) (y : Entry) → k < i → slice_get xs k ≡ Some y → bears circle here leaf y ≡ false)
      → (k : ℕ) (y : Entry) → k < suc i → slice_get (x ∷ xs) k ≡ Some y → bears circle here leaf y ≡ false
  later_first x xs i f h zero y lt at = let same : x ≡ y = cc in subst (λ z. bears circle here leaf z ≡ false) same f
  later_first x xs i f h (suc k) y lt at = h k y (omega (arith, lt)) at

  pub told_granted : (es : List Entry) → grants es circle here leaf ≡ true → Grants es circle here leaf
  told_granted [] e = absurd cc
  told_granted (x ∷ es) e =
      elim (bears circle here leaf x) as (λ b. bears circle here leaf x ≡ b → (if b then not x.deny else grants es circle here leaf) ≡ true → Grants (x ∷ es) circle here leaf) [
        | true ↦ λ t is. (0, x, record { there = refl; bearing = t; first = λ k y lt at. absurd (omega (arith, lt)) }, not-true x.deny is)
        | false ↦ λ f is.
            let g = told_granted es is in
            (suc g.0, g.1, record { there = g.2.there; bearing = g.2.bearing; first = later_first x es g.0 f g.2.first }, g.3)
      ] refl e

  granted_told : (es : List Entry) (i : ℕ) (e : Entry) → Decides es circle here i leaf e → e.deny ≡ false → grants es circle here leaf ≡ true
  granted_told [] i e d n = absurd (let t = d.there in cc)
  granted_told (x ∷ es) zero e d n =
      let same : x ≡ e = let t = d.there in cc in
      let bearing : bears circle here leaf x ≡ true = ap (bears circle here leaf) same ∙ d.bearing in
      ap (λ b. if b then not x.deny else grants es circle here leaf) bearing ∙ ap not (ap (λ (y : Entry). y.deny) same ∙ n)
  granted_told (x ∷ es) (suc i) e d n =
      let passed : bears circle here leaf x ≡ false = d.first 0 x (omega arith) refl in
      ap (λ b. if b then not x.deny else grants es circle here leaf) passed
      ∙ granted_told es i e (record { there = d.there; bearing = d.bearing; first = λ k y lt at. d.first (suc k) y (omega (arith, lt)) at }) n

pub told_privileges : PrivilegesToldAreGranted
told_privileges list circle here leaf =
    (told_granted circle here leaf (bare_entries list), λ g. granted_told circle here leaf (bare_entries list) g.0 g.1 g.2 g.3)

-- ---- direct members
module _ (group : List ℕ) where
  has_member : (pairs : List Membership) (q : List ℕ)
      → has_path (members_in pairs group) q ≡ list_any (eq_by_cmp membership_cmp (record { group = group; member = q })) pairs
  has_member [] q = refl
  has_member (x ∷ xs) q =
      elim (bytes_eq x.group group) as (λ b. bytes_eq x.group group ≡ b
      → list_any (λ p. bytes_eq p q) (map (λ (m : Membership). m.member) (if b then x ∷ filter (λ (m : Membership). bytes_eq m.group group) xs else filter (λ (m : Membership). bytes_eq m.group group) xs))
      ≡ ((b && bytes_eq x.member q) || list_any (eq_by_cmp membership_cmp (record { group = group; member = q })) xs)) [
        | true ↦ λ _. ap (λ b. bytes_eq x.member q || b) (has_member xs q)
        | false ↦ λ _. has_member xs q
      ] refl
      ∙ ap (λ b. b || list_any (eq_by_cmp membership_cmp (record { group = group; member = q })) xs) (sym (same_membership x (record { group = group; member = q })))

  -- pairs of one group are in order of their members
  after_member : (a : List ℕ) (x y : Membership) → x.group ≡ group → y.group ≡ group → membership_cmp x y ≡ Less → path_cmp x.member y.member ≡ Less
  after_member a x y f g less =
      let equal : path_cmp x.group y.group ≡ Equal = ap (λ h. path_cmp x.group h) (g ∙ sym f) ∙ tied_itself nat_list_cmp_total x.group in
      sym (ap (λ r. ordering_then r (path_cmp x.member y.member)) equal) ∙ less

  below_members : (x : Membership) → x.group ≡ group → (xs : List Membership) → AllByRecursion (λ y. membership_cmp x y ≡ Less) xs
      → AllByRecursion (λ m. path_cmp x.member m ≡ Less) (members_in xs group)
  below_members x is [] h = tt
  below_members x is (y ∷ ys) h =
      elim (bytes_eq y.group group) as (λ b. bytes_eq y.group group ≡ b
      → AllByRecursion (λ m. path_cmp x.member m ≡ Less) (map (λ (m : Membership). m.member) (if b then y ∷ filter (λ (m : Membership). bytes_eq m.group group) ys else filter (λ (m : Membership). bytes_eq m.group group) ys))) [
        | true ↦ λ t. (after_member group x y is (same_path y.group group t) h.0, below_members x is ys h.1)
        | false ↦ λ _. below_members x is ys h.1
      ] refl

  sorted_members : (xs : List Membership) → IsStrictlySortedBy membership_cmp xs → IsStrictlySortedBy path_cmp (members_in xs group)
  unfolding IsStrictlySortedBy
  sorted_members [] h = tt
  sorted_members (x ∷ xs) h =
      elim (bytes_eq x.group group) as (λ b. bytes_eq x.group group ≡ b
      → IsStrictlySortedBy path_cmp (map (λ (m : Membership). m.member) (if b then x ∷ filter (λ (m : Membership). bytes_eq m.group group) xs else filter (λ (m : Membership). bytes_eq m.group group) xs))) [
        | true ↦ λ t. (below_members x (same_path x.group group t) xs h.0, sorted_members xs h.1)
        | false ↦ λ _. sorted_members xs h.1
      ] refl

pub told_members : MembersToldAreDirect
told_members o asked whole is asks group = (
  sorted_members group whole.memberships (is.in_order asks),
  λ q. has_member group whole.memberships q ∙ sym (contains-from_list memberships_total whole.memberships (record { group = group; member = q }))
      ∙ ap (λ s. contains s (record { group = group; member = q })) (is.memberships asks),
)
