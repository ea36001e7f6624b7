-- The pairs of a policy's members.
use Rattle.book_policy_values.proofs.Common.{◌≡◌, ◌≢◌, ℕ, ◌≤◌, List, [], ◌∷◌, Bool, true, false, cond, map, refl, sym, ap, ◌∙◌, subst, arith, All, All-head, All-tail, spelled, given_members, paired, paired_all}
use Rattle.std.proofs.Common.{◌⊎◌, inl, inr, ◌||◌, ◌&&◌, filter}
use Rattle.std.specs.List.{AllPairs}
use Rattle.std.proofs.lemmas.List.{append_cancel_left}
use Rattle.std.specs.FinSet as set
use Rattle.std.specs.FinSet.{contains-insert, contains-retain, contains-empty, same_set, len-empty}
use Rattle.std.specs.Ordering.{eq_by_cmp}
use Rattle.std.specs.Str.{bytes_eq}
use Rattle.std.proofs.Common.{codes}
use Rattle.std.proofs.lemmas.Bool.{and_parts, or_cases}
use Rattle.book_lists.proofs.Pairing.{memberships_total, memberships_exact, same_membership, same_path}
use Rattle.book_lists.specs.Memberships.{Memberships, membership_cmp, members_of}
use Rattle.book_lists.specs.Principals.{group_path}
use Rattle.book_lists.specs.declared.memberships.Membership.{Membership}
use Rattle.book_policy_values.specs.declared.parts.GroupPart.{GroupPart}
use Rattle.book_policy_values.specs.Policies.{direct, memberships}
use Rattle.book_policy_values.proofs.Names.{pairs_head, pairs_tail}

pub tied : (q e : Membership) → eq_by_cmp membership_cmp q e ≡ true → e ≡ q
tied q e h =
    let both = and_parts _ _ (sym (same_membership e q) ∙ h) in
    let g : e.group ≡ q.group = same_path _ _ both.0 in
    let m : e.member ≡ q.member = same_path _ _ both.1 in
    λ i. record { group = g i; member = m i }

-- what holds of the pairs added holds of each
pub each_paired : (P : Membership → Type 0) (pairs : Memberships) (ms : List Membership) → ((q : Membership) → set.contains pairs q ≡ true → P q)
    → All P ms → (q : Membership) → set.contains (paired pairs ms) q ≡ true → P q
each_paired P pairs [] before all q is = before q is
each_paired P pairs (m ∷ ms) before all q is =
    each_paired P (set.insert pairs m) ms
    (λ r e. elim (or_cases (eq_by_cmp membership_cmp r m) (set.contains pairs r) (sym (contains-insert memberships_total pairs m r) ∙ e)) [
      | inl same ↦ subst P (tied r m same) (All-head P m ms all)
      | inr there ↦ before r there
    ])
    (All-tail P m ms all) q is

pub each_paired_all : (P : Membership → Type 0) (pairs : Memberships) (gs : List GroupPart) → ((q : Membership) → set.contains pairs q ≡ true → P q)
    → All (λ (g : GroupPart). All P (memberships (given_members g))) gs
    → (q : Membership) → set.contains (paired_all pairs (map given_members gs)) q ≡ true → P q
each_paired_all P pairs [] before all q is = before q is
each_paired_all P pairs (g ∷ gs) before all q is =
    each_paired_all P (paired pairs (memberships (given_members g))) gs
    (each_paired P pairs (memberships (given_members g)) before (All-head (λ (h : GroupPart). All P (memberships (given_members h))) g gs all))
    (All-tail (λ (h : GroupPart). All P (memberships (given_members h))) g gs all) q is

-- ---- the members of one group

module _ (group : List ℕ) where
  abbrev of_group : Membership → Bool
  of_group m = bytes_eq m.group group

  contains_direct : (pairs : Memberships) (q : Membership) → set.contains (members_of pairs group) q ≡ (set.contains pairs q && of_group q)
  contains_direct pairs q = contains-retain pairs of_group q (λ x e. ap of_group (sym (memberships_exact q x e)))

  step_true : (e a p : Bool) → (e ≡ true → p ≡ true) → ((e || a) && p) ≡ (e || (a && p))
  step_true true a p h = h refl
  step_true false a p h = refl

  step_false : (e a p : Bool) → (e ≡ true → p ≡ false) → ((e || a) && p) ≡ (a && p)
  step_false true true p h = refl
  step_false true false p h = h refl
  step_false false a p h = refl

  direct_insert : (pairs : Memberships) (m : Membership)
      → members_of (set.insert pairs m) group ≡ cond (of_group m) (set.insert (members_of pairs group) m) (members_of pairs group)
  direct_insert pairs m = elim (of_group m) as (λ b. of_group m ≡ b → members_of (set.insert pairs m) group ≡ cond b (set.insert (members_of pairs group) m) (members_of pairs group)) [
    | true ↦ λ is. same_set memberships_total memberships_exact _ _ (λ q.
        contains_direct (set.insert pairs m) q ∙ ap (λ c. c && of_group q) (contains-insert memberships_total pairs m q)
        ∙ step_true (eq_by_cmp membership_cmp q m) (set.contains pairs q) (of_group q) (λ same. ap of_group (sym (tied q m same)) ∙ is)
        ∙ sym (contains-insert memberships_total (members_of pairs group) m q ∙ ap (λ c. eq_by_cmp membership_cmp q m || c) (contains_direct pairs q)))
    | false ↦ λ is. same_set memberships_total memberships_exact _ _ (λ q.
        contains_direct (set.insert pairs m) q ∙ ap (λ c. c && of_group q) (contains-insert memberships_total pairs m q)
        ∙ step_false (eq_by_cmp membership_cmp q m) (set.contains pairs q) (of_group q) (λ same. ap of_group (sym (tied q m same)) ∙ is)
        ∙ sym (contains_direct pairs q))
  ] refl

  direct_paired : (pairs : Memberships) (ms : List Membership) → members_of (paired pairs ms) group ≡ paired (members_of pairs group) (filter of_group ms)
  direct_paired pairs [] = refl
  direct_paired pairs (m ∷ ms) =
      direct_paired (set.insert pairs m) ms ∙ ap (λ s. paired s (filter of_group ms)) (direct_insert pairs m) ∙ swap (of_group m)
    where
      swap : (b : Bool) → paired (cond b (set.insert (members_of pairs group) m) (members_of pairs group)) (filter of_group ms)
          ≡ paired (members_of pairs group) (cond b (m ∷ filter of_group ms) (filter of_group ms))
      swap true = refl
      swap false = refl

  kept : (path : List ℕ) (texts : List (List ℕ)) → bytes_eq path group ≡ true → filter of_group (direct path texts) ≡ direct path texts
  kept path [] is = refl
  kept path (t ∷ ts) is = rw is (ap (λ (ms : List Membership). record { group = path; member = spelled t } ∷ ms) (kept path ts is))

  left_out : (path : List ℕ) (texts : List (List ℕ)) → bytes_eq path group ≡ false → filter of_group (direct path texts) ≡ []
  left_out path [] is = refl
  left_out path (t ∷ ts) is = rw is (left_out path ts is)

  direct_empty : members_of set.empty group ≡ set.empty
  direct_empty = same_set memberships_total memberships_exact _ _ (λ q.
      contains_direct set.empty q ∙ ap (λ c. c && of_group q) (contains-empty membership_cmp q) ∙ sym (contains-empty membership_cmp q))

  -- no more than the members of one group are added, where each group comes once
  few_in : (most : ℕ) (pairs : Memberships) (gs : List GroupPart) → AllPairs (λ (g h : GroupPart). g.name ≢ h.name) gs
      → All (λ (g : GroupPart). set.len (paired set.empty (memberships (given_members g))) ≤ most) gs
      → (members_of pairs group ≡ set.empty) ⊎ ((set.len (members_of pairs group) ≤ most) × All (λ (g : GroupPart). group_path g.name ≢ group) gs)
      → set.len (members_of (paired_all pairs (map given_members gs)) group) ≤ most
  few_in most pairs [] once few (inl none) = rw none (rw (len-empty membership_cmp) (omega arith))
  few_in most pairs [] once few (inr some) = some.0
  few_in most pairs (g ∷ gs) once few state =
      elim (bytes_eq (group_path g.name) group) as (λ b. bytes_eq (group_path g.name) group ≡ b → set.len (members_of (paired_all pairs (map given_members (g ∷ gs))) group) ≤ most) [
        | true ↦ λ is. few_in most (paired pairs (memberships (given_members g))) gs rest_once rest_few (inr (here is state, others is))
        | false ↦ λ is. few_in most (paired pairs (memberships (given_members g))) gs rest_once rest_few (elsewhere is state)
      ] refl
    where
      rest_once : AllPairs (λ (x y : GroupPart). x.name ≢ y.name) gs
      rest_once = pairs_tail (λ (x y : GroupPart). x.name ≢ y.name) g gs once

      rest_few : All (λ (x : GroupPart). set.len (paired set.empty (memberships (given_members x))) ≤ most) gs
      rest_few = All-tail (λ (x : GroupPart). set.len (paired set.empty (memberships (given_members x))) ≤ most) g gs few

      others : bytes_eq (group_path g.name) group ≡ true → All (λ (x : GroupPart). group_path x.name ≢ group) gs
      others is = λ k d within e.
          pairs_head (λ (x y : GroupPart). x.name ≢ y.name) g gs once k d within
          (append_cancel_left (codes "/groups/") _ _ (same_path _ _ is ∙ sym e))

      here : bytes_eq (group_path g.name) group ≡ true
          → (members_of pairs group ≡ set.empty) ⊎ ((set.len (members_of pairs group) ≤ most) × All (λ (x : GroupPart). group_path x.name ≢ group) (g ∷ gs))
          → set.len (members_of (paired pairs (memberships (given_members g))) group) ≤ most
      here is (inl none) =
          rw (direct_paired pairs (memberships (given_members g)))
          (rw (kept (group_path g.name) g.members is)
          (rw none (All-head (λ (x : GroupPart). set.len (paired set.empty (memberships (given_members x))) ≤ most) g gs few)))
      here is (inr some) = absurd (All-head (λ (x : GroupPart). group_path x.name ≢ group) g gs some.1 (same_path _ _ is))

      stays : bytes_eq (group_path g.name) group ≡ false → members_of (paired pairs (memberships (given_members g))) group ≡ members_of pairs group
      stays is = direct_paired pairs (memberships (given_members g)) ∙ ap (paired (members_of pairs group)) (left_out (group_path g.name) g.members is)

      elsewhere : bytes_eq (group_path g.name) group ≡ false
          → (members_of pairs group ≡ set.empty) ⊎ ((set.len (members_of pairs group) ≤ most) × All (λ (x : GroupPart). group_path x.name ≢ group) (g ∷ gs))
          → (members_of (paired pairs (memberships (given_members g))) group ≡ set.empty)
          ⊎ ((set.len (members_of (paired pairs (memberships (given_members g))) group) ≤ most) × All (λ (x : GroupPart). group_path x.name ≢ group) gs)
      elsewhere is (inl none) = inl (stays is ∙ none)
      elsewhere is (inr some) = inr (rw (stays is) some.0, All-tail (λ (x : GroupPart). group_path x.name ≢ group) g gs some.1)

pub few_direct : (most : ℕ) (gs : List GroupPart) → AllPairs (λ (g h : GroupPart). g.name ≢ h.name) gs
    → All (λ (g : GroupPart). set.len (paired set.empty (memberships (given_members g))) ≤ most) gs
    → (group : List ℕ) → set.len (members_of (paired_all set.empty (map given_members gs)) group) ≤ most
few_direct most gs once few group = few_in group most set.empty gs once few (inl (direct_empty group))
