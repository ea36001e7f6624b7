-- The pairs that an Office keeps beside those of a policy, and whether two sets of pairs are the same.
use Rattle.book_office_adopting.proofs.Common.{◌≡◌, ℕ, List, [], ◌∷◌, Bool, true, false, not, cond, ◌&&◌, codes, Some, None, refl, sym, ap, ◌∙◌, subst, AllByRecursion, false≢true, get, group_path, Membership, same, PolicyTables, kept_pairs}
use Rattle.std.proofs.Common.{◌≢◌, ◌++◌, ◌||◌, is_some}
use Rattle.std.specs.List.{list_any}
use Rattle.std.specs.FinMap.{keys, contains_key-keys}
use Rattle.std.specs.FinSet as set
use Rattle.std.specs.FinSet.{contains-insert, contains-from_list, same_set}
use Rattle.std.specs.Ordering.{eq_by_cmp}
use Rattle.std.specs.Str.{bytes_eq}
use Rattle.std.proofs.lemmas.Cmp.{nat_list_eq_equiv}
use Rattle.std.proofs.lemmas.Map.Text.{is_eq-slice_cmp}
use Rattle.book_lists.proofs.Pairing.{memberships_total, memberships_exact, same_membership, same_path, path_itself}
use Rattle.book_lists.specs.Memberships.{Memberships, membership_cmp, set_of}
use Rattle.book_lists.specs.Names.{IsName}
use Rattle.book_office_values.specs.Texts.{IsLabel}
use Rattle.book_office_adopting.specs.Adopting.{is_group_of, adopted_pairs}
use Rattle.book_office_adopting.proofs.Adoptions.{contains_adopted}
use Rattle.book_policy_values.proofs.Members.{tied}

-- ---- the groups of a policy

any_name : (names : List (List ℕ)) (name : List ℕ) → list_any (λ n. bytes_eq (group_path n) (group_path name)) names ≡ list_any (same name) names
any_name [] name = refl
any_name (n ∷ ns) name = λ i. (nat_list_eq_equiv.symm n name ∙ sym (is_eq-slice_cmp name n)) i || any_name ns name i

pub group_named : (t : PolicyTables) (group name : List ℕ) → group ≡ codes "/groups/" ++ name → is_group_of t group ≡ is_some (get t.groups name)
group_named t group name e = ap (is_group_of t) e ∙ any_name (keys t.groups) name ∙ sym (contains_key-keys t.groups name)

-- what is no name names no group of a policy
pub no_name : (t : PolicyTables) → ((name label : List ℕ) → get t.groups name ≡ Some label → IsName name × IsLabel label)
    → (group name : List ℕ) → group ≡ codes "/groups/" ++ name → (IsName name → ⊥) → is_group_of t group ≡ false
no_name t are group name e other = group_named t group name e ∙ elim (get t.groups name) as (λ r. get t.groups name ≡ r → is_some r ≡ false) [
  | None ↦ λ _. refl
  | Some label ↦ λ is. absurd (other (are name label is).0)
] refl

none_named : (names : List (List ℕ)) (group : List ℕ) → ((name : List ℕ) → group ≢ codes "/groups/" ++ name) → list_any (λ n. bytes_eq (group_path n) group) names ≡ false
none_named [] group other = refl
none_named (n ∷ ns) group other = elim (bytes_eq (group_path n) group) as (λ b. bytes_eq (group_path n) group ≡ b → (b || list_any (λ k. bytes_eq (group_path k) group) ns) ≡ false) [
  | true ↦ λ is. absurd (other n (sym (same_path (group_path n) group is)))
  | false ↦ λ _. none_named ns group other
] refl

pub no_group : (t : PolicyTables) (group : List ℕ) → ((name : List ℕ) → group ≢ codes "/groups/" ++ name) → is_group_of t group ≡ false
no_group t group other = none_named (keys t.groups) group other

-- ---- the pairs kept

joined : (e x g n c : Bool) → (e ≡ true → n ≡ g) → ((x && not g) || ((e && not n) || c)) ≡ (((e || x) && not g) || c)
joined false x g n c h = refl
joined true true true true c h = refl
joined true false true true c h = refl
joined true x true false c h = absurd (false≢true (h refl))
joined true x false true c h = absurd (false≢true (sym (h refl)))
joined true true false false c h = refl
joined true false false false c h = refl

module _ (t : PolicyTables) where
  put : (pairs : Memberships) (m q : Membership) (g : Bool)
      → set.contains (cond g pairs (set.insert pairs m)) q ≡ ((eq_by_cmp membership_cmp q m && not g) || set.contains pairs q)
  put pairs m q true = elim (eq_by_cmp membership_cmp q m) as (λ e. set.contains pairs q ≡ ((e && false) || set.contains pairs q)) [ true ↦ refl | false ↦ refl ]
  put pairs m q false = contains-insert memberships_total pairs m q
      ∙ elim (eq_by_cmp membership_cmp q m) as (λ e. (e || set.contains pairs q) ≡ ((e && true) || set.contains pairs q)) [ true ↦ refl | false ↦ refl ]

  contains_kept : (pairs : Memberships) (ms : List Membership) (q : Membership)
      → set.contains (kept_pairs t pairs ms) q ≡ ((list_any (eq_by_cmp membership_cmp q) ms && not (is_group_of t q.group)) || set.contains pairs q)
  contains_kept pairs [] q = refl
  contains_kept pairs (m ∷ ms) q =
      contains_kept (cond (is_group_of t m.group) pairs (set.insert pairs m)) ms q
      ∙ ap (λ b. (list_any (eq_by_cmp membership_cmp q) ms && not (is_group_of t q.group)) || b) (put pairs m q (is_group_of t m.group))
      ∙ joined (eq_by_cmp membership_cmp q m) (list_any (eq_by_cmp membership_cmp q) ms) (is_group_of t q.group) (is_group_of t m.group) (set.contains pairs q)
      (λ e. ap (λ (k : Membership). is_group_of t k.group) (tied q m e))

  pub kept_adopted : (old : Memberships) (list : List Membership) → set_of list ≡ old → kept_pairs t t.members list ≡ adopted_pairs t old
  kept_adopted old list e = same_set memberships_total memberships_exact _ _ (λ q.
      contains_kept t.members list q
      ∙ ap (λ b. (b && not (is_group_of t q.group)) || set.contains t.members q) (sym (contains-from_list memberships_total list q) ∙ ap (λ s. set.contains s q) e)
      ∙ sym (contains_adopted t old q))

-- ---- the same pairs

one_there : (other : Memberships) (list : List Membership) (q : Membership) → AllByRecursion (λ (m : Membership). set.contains other m ≡ true) list
    → list_any (eq_by_cmp membership_cmp q) list ≡ true → set.contains other q ≡ true
one_there other [] q all e = absurd (false≢true e)
one_there other (m ∷ ms) q all e = elim (eq_by_cmp membership_cmp q m) as (λ b. eq_by_cmp membership_cmp q m ≡ b → (b || list_any (eq_by_cmp membership_cmp q) ms) ≡ true → set.contains other q ≡ true) [
  | true ↦ λ is _. subst (λ (k : Membership). set.contains other k ≡ true) (tied q m is) all.0
  | false ↦ λ _ rest. one_there other ms q all.1 rest
] refl e

pub within : (pairs other : Memberships) (list : List Membership) → set_of list ≡ pairs → AllByRecursion (λ (m : Membership). set.contains other m ≡ true) list
    → (q : Membership) → set.contains pairs q ≡ true → set.contains other q ≡ true
within pairs other list e all q h =
    one_there other list q all (sym (contains-from_list memberships_total list q) ∙ ap (λ s. set.contains s q) e ∙ h)

same_truth : (a b : Bool) → (a ≡ true → b ≡ true) → (b ≡ true → a ≡ true) → a ≡ b
same_truth true b f g = sym (f refl)
same_truth false true f g = g refl
same_truth false false f g = refl

pub both_within : (pairs other : Memberships) → ((q : Membership) → set.contains pairs q ≡ true → set.contains other q ≡ true)
    → ((q : Membership) → set.contains other q ≡ true → set.contains pairs q ≡ true) → pairs ≡ other
both_within pairs other f g = same_set memberships_total memberships_exact pairs other (λ q. same_truth _ _ (f q) (g q))

-- each pair of a list is in its set
pub all_within : (list rest : List Membership) → ((q : Membership) → list_any (eq_by_cmp membership_cmp q) rest ≡ true → list_any (eq_by_cmp membership_cmp q) list ≡ true)
    → AllByRecursion (λ (m : Membership). set.contains (set_of list) m ≡ true) rest
all_within list [] h = tt
all_within list (m ∷ ms) h = (
  contains-from_list memberships_total list m ∙ h m (ap (λ b. b || list_any (eq_by_cmp membership_cmp m) ms) (tied_self m)),
  all_within list ms (λ q e. h q (later (eq_by_cmp membership_cmp q m) _ e)),
)
  where
    tied_self : (k : Membership) → eq_by_cmp membership_cmp k k ≡ true
    tied_self k = same_membership k k ∙ (λ i. path_itself k.group i && path_itself k.member i)

    later : (a b : Bool) → b ≡ true → (a || b) ≡ true
    later true b e = refl
    later false b e = e

pub all_same : (pairs other : Memberships) (list : List Membership) → set_of list ≡ pairs → pairs ≡ other → AllByRecursion (λ (m : Membership). set.contains other m ≡ true) list
all_same pairs other list e same = subst (λ s. AllByRecursion (λ (m : Membership). set.contains s m ≡ true) list) (e ∙ same) (all_within list list (λ q h. h))
