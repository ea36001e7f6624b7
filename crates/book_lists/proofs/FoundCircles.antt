-- Each caller has a circle: what chains of memberships lead to.
use Rattle.book_lists.proofs.Common.{◌≡◌, ◌⊎◌, inl, inr, ℕ, List, [], ◌∷◌, map, Bool, true, Some, None, refl, sym, ap, ◌∙◌, subst, CircleOf, nat_list_cmp_total, membership_cmp, path_cmp, eq_by_cmp, false≢true}
use Rattle.std.specs.Cmp.{eq_by_cmp_equiv}
use Rattle.std.specs.FinSet.{contains, contains-from_list, contains-items, from_list, items}
use Rattle.book_lists.proofs.Pairing.{memberships_exact}
use Rattle.book_lists.specs.Memberships.{Belongs, Descends, IsDirect, Memberships}
use Rattle.book_lists.specs.declared.memberships.Membership.{Membership}
use Rattle.book_lists.proofs.PathSets.{paths_exact}
use Rattle.book_lists.specs.Callers.{IsCircle}
use Rattle.book_lists.specs.declared.circles.Caller.{Caller}
use Rattle.book_lists.specs.declared.circles.Caller.TheVariants.{Known, Nobody}
use Rattle.book_lists.proofs.Elements.{Mem, mem_map, tied}
use Rattle.book_lists.proofs.Closures.{Closure, IsReachedBy, LeadsBy, any_mem, closure, mem_any}

module _ (pairs : Memberships) where
  -- the groups of which somebody is a member
  groups : List (List ℕ)
  groups = map (λ (m : Membership). m.group) (items pairs)

  abbrev is_direct : List ℕ → List ℕ → Bool
  is_direct member group = contains pairs (record { group = group; member = member })

  group_there : (group member : List ℕ) → IsDirect pairs group member → Mem group groups
  unfolding groups
  group_there group member direct =
      let pair : Membership = record { group = group; member = member } in
      let at = any_mem (eq_by_cmp membership_cmp pair) (items pairs) (sym (contains-items pairs pair) ∙ direct) in
      let same : pair ≡ at.0 = memberships_exact pair at.0 (tied _ at.2) in
      subst (λ g. Mem g (map (λ (m : Membership). m.group) (items pairs))) (sym (ap (λ (m : Membership). m.group) same)) (mem_map (λ (m : Membership). m.group) at.0 (items pairs) at.1)

  module _ (person : List ℕ) where
    -- a group of a principal to which the person belongs
    joined : (x q : List ℕ) → Belongs pairs person x → IsDirect pairs q x → Belongs pairs person q
    joined x q (inl same) pair = inr (x, [], (pair, sym same))
    joined x q (inr chain) pair = inr (x, chain.0 ∷ chain.1, (pair, chain.2))

    carried : (x : List ℕ) (between : List (List ℕ)) (q : List ℕ) → Belongs pairs person x → LeadsBy groups is_direct x between q → Belongs pairs person q
    carried x [] q is l = joined x q is l
    carried x (c ∷ cs) q is l = carried c cs q (joined x c is l.1) l.2

    reached_belongs : (q : List ℕ) → IsReachedBy groups is_direct person q → Belongs pairs person q
    reached_belongs q r = carried person r.0 q (inl refl) r.1

    module _ (all : Closure groups is_direct person) where
      within : (q : List ℕ) (members : List (List ℕ)) → Descends pairs q members person → (q ≡ person) ⊎ Mem q all.found
      within q [] same = inl same
      within q (m ∷ ms) d = inr (all.closed m q (within m ms d.1) (group_there q m d.0) d.0)

      belongs_within : (q : List ℕ) → Belongs pairs person q → Mem q (person ∷ all.found)
      belongs_within q (inl same) = inl (sym same)
      belongs_within q (inr chain) = within q (chain.0 ∷ chain.1) chain.2

      within_belongs : (q : List ℕ) → Mem q (person ∷ all.found) → Belongs pairs person q
      within_belongs q m = elim m [
        | inl same ↦ inl (sym same)
        | inr found ↦ reached_belongs q (all.reached q found).1
      ]

      circle_has : (q : List ℕ) → contains (from_list {R = path_cmp} (person ∷ all.found)) q ≡ true → Belongs pairs person q
      circle_has q has =
          let at = any_mem (eq_by_cmp path_cmp q) (person ∷ all.found) (sym (contains-from_list nat_list_cmp_total (person ∷ all.found) q) ∙ has) in
          within_belongs q (subst (λ x. Mem x (person ∷ all.found)) (sym (paths_exact q at.0 (tied _ at.2))) at.1)

      has_circle : (q : List ℕ) → Belongs pairs person q → contains (from_list {R = path_cmp} (person ∷ all.found)) q ≡ true
      has_circle q is =
          contains-from_list nat_list_cmp_total (person ∷ all.found) q
          ∙ mem_any (eq_by_cmp path_cmp q) q (person ∷ all.found) (belongs_within q is) ((eq_by_cmp_equiv nat_list_cmp_total).refl q)

pub circle_exists : (pairs : Memberships) (caller : Caller) → (circle : CircleOf) × IsCircle pairs caller circle
circle_exists pairs Nobody = (None, record { known = refl; principals = λ q. (λ e. absurd (false≢true e), λ belongs. absurd belongs) })
circle_exists pairs (Known person) =
    let all = closure (groups pairs) (is_direct pairs) person in (
      Some (from_list (person ∷ all.found)),
      record { known = refl; principals = λ q. (circle_has pairs person all q, has_circle pairs person all q) },
    )
