use Rattle.std.proofs.Common.{◌≡◌, ◌++◌, ◌∷◌, ◌∙◌, [], List, ℕ, ◌+◌, ◌*◌, ◌<◌, ap, arith, inl, inr, length, refl, sym, subst, zero, suc}
use Rattle.std.proofs.lemmas.Bool.Decides.{nat_tests}
use Rattle.book_lists.specs.Memberships.{set_of}
use Rattle.book_lists.specs.declared.memberships.Membership.{Membership}
use Rattle.book_questions_chains.specs.Chains.{AreChains, risen}
use Rattle.book_questions_chains.specs.declared.chains.Chain.{Chain}
use Rattle.book_questions_chains.proofs.Climbs.{Climbs, climbs_begin, climbs_on, climbed, each_is_direct, fresh, front_weight, less_fresh, no_more_fresh}
use Rattle.book_questions_chains.proofs.climbing.chains_from.Goals as goal

abbrev Met : List Membership → List ℕ → List Chain → List Chain → Type 0
Met listed p settled front = (k : ℕ) × Climbs listed p k settled front

begins : (listed : List Membership) (p : List ℕ) (settled front : List Chain) → settled ≡ [] → front ≡ record { group = p; members = [] } ∷ [] → Met listed p settled front
begins listed p settled front none one = (0, subst (λ s. Climbs listed p 0 s front) (sym none) (subst (Climbs listed p 0 []) (sym one) (climbs_begin listed p)))

goes_on : (listed : List Membership) (p : List ℕ) (settled front joined higher : List Chain) → Met listed p settled front → joined ≡ settled ++ front → higher ≡ risen settled front listed
    → Met listed p joined higher
goes_on listed p settled front joined higher so_far a b = (
  so_far.0 + 1,
  subst (λ s. Climbs listed p (so_far.0 + 1) s higher) (sym a) (subst (Climbs listed p (so_far.0 + 1) (settled ++ front)) (sym b)
      (climbs_on listed p so_far.0 settled front so_far.1 (each_is_direct listed))),
)

ends : (listed : List Membership) (p : List ℕ) (settled front : List Chain) → Met listed p settled front → length front ≡ 0 → AreChains (set_of listed) p settled
ends listed p settled [] so_far none = climbed listed p so_far.0 settled so_far.1
ends listed p settled (x ∷ xs) so_far none = absurd (omega (arith, none))

weighs_one : (front : List Chain) → 0 < length front → front_weight front ≡ 1
weighs_one [] some = absurd (omega (arith, some))
weighs_one (x ∷ xs) some = refl

weighs_little : (front : List Chain) → front_weight front < 2
weighs_little [] = omega arith
weighs_little (x ∷ xs) = omega arith

shrinks : (listed : List Membership) (p : List ℕ) (settled front joined higher : List Chain) → Met listed p settled front → joined ≡ settled ++ front → higher ≡ risen settled front listed
    → 0 < length front → 2 * fresh joined higher listed + front_weight higher < 2 * fresh settled front listed + front_weight front
shrinks listed p settled front joined higher so_far a b some =
    subst (λ s. 2 * fresh s higher listed + front_weight higher < 2 * fresh settled front listed + front_weight front) (sym a)
    (subst (λ h. 2 * fresh (settled ++ front) h listed + front_weight h < 2 * fresh settled front listed + front_weight front) (sym b) fewer)
  where
    fewer : 2 * fresh (settled ++ front) (risen settled front listed) listed + front_weight (risen settled front listed) < 2 * fresh settled front listed + front_weight front
    fewer = elim (less_fresh listed p so_far.0 settled front so_far.1) [
      | inl none ↦ let light : front_weight (risen settled front listed) ≡ 0 = ap front_weight none in
          let w = weighs_one front some in let m = no_more_fresh listed p so_far.0 settled front so_far.1 in omega (arith, light, w, m)
      | inr lt ↦ let light = weighs_little (risen settled front listed) in omega (arith, light, lt)
    ]

pub steps-init : goal.steps-init
steps-init c = begins c.args.pairs.now c.args.principal.now c.new-settled.result.items c.in_ok-front.front.items c.new-settled.ensures.items c.in_ok-front.ensures

pub steps-preserved : goal.steps-preserved
steps-preserved c =
    goes_on c.args.pairs.now c.args.principal.now c.steps.settled.items c.steps.front.items c.append.new.self.items c.in_ok-higher.higher.items c.steps.invariant
    c.in_ok-append.ensures.items
    (c.in_ok-higher.ensures ∙ ap (λ s. risen s c.as_slice-in-steps.result.now c.args.pairs.now) c.as_slice.ensures.value ∙ ap (λ f. risen c.steps.settled.items f c.args.pairs.now) c.as_slice-in-steps.ensures.value)

pub steps-smaller : goal.steps-smaller
steps-smaller c =
    shrinks c.args.pairs.now c.args.principal.now c.steps.settled.items c.steps.front.items c.append.new.self.items c.in_ok-higher.higher.items c.steps.invariant
    c.in_ok-append.ensures.items
    (c.in_ok-higher.ensures ∙ ap (λ s. risen s c.as_slice-in-steps.result.now c.args.pairs.now) c.as_slice.ensures.value ∙ ap (λ f. risen c.steps.settled.items f c.args.pairs.now) c.as_slice-in-steps.ensures.value)
    (let h = c.steps-test.ensures in let ok = c.steps.front.ok in grind (arith, nat_tests))

pub returns : goal.returns
returns c = ends c.args.pairs.now c.args.principal.now c.steps.settled.items c.steps.front.items c.steps.invariant (let h = c.steps-test.ensures in let ok = c.steps.front.ok in grind (arith, nat_tests))
