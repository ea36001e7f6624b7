-- What a scan knows that goes no further than what settles a need.
use Rattle.book_lists.proofs.Common.{◌≡◌, ℕ, ◌+◌, ◌-◌, ◌<◌, ◌^◌, inl, inr, ◌↔◌, Bool, true, false, List, [], ◌++◌, length, Option, Some, None, refl, sym, ap, ◌∙◌, subst, arith, both_ways, false≢true, append-nil, length-append, Leaf, Reading}
use Rattle.std.proofs.Common.{min, is_some, append_assoc}
use Rattle.std.specs.Option.{option_map_or}
use Rattle.std.proofs.lemmas.Bool.{cases_Bool, and_from}
use Rattle.book_rights.specs.Leaves.{IsLeast}
use Rattle.book_lists.specs.Readings.{bears_read, denying_read, IsAllowedRead, IsDenialRead, Settles}
use Rattle.book_lists.specs.Deciders.{index_in, IsFirstDenied, IsDeciders, IsJudged}
use Rattle.book_lists.specs.declared.deciders.Deciders.{Deciders}
use Rattle.book_lists.proofs.FirstBearings.{denial_more, denied_or_allowed}
use Rattle.book_lists.proofs.IdleReadings.{settles_more}
use Rattle.book_lists.proofs.KeptDeciders.{outcome_denied, outcome_allowed, left_unallowed, none_denied, decided_more}
use Rattle.book_lists.proofs.FirstFound.{decides_found}

-- a scan that has looked at all
pub judged : (need : Leaf → Bool) (readings : List Reading) (d : Deciders) → IsDeciders need readings d → IsJudged need readings d
judged need readings d s = record {
  seen = readings;
  unseen = [];
  parts = sym (append-nil readings);
  state = subst (λ n. IsDeciders need readings (record d { passed = n })) s.passed s;
  passed = s.passed;
  ended = inl refl;
}

module _ (need : Leaf → Bool) (readings : List Reading) (d : Deciders) (j : IsJudged need readings d) where
  -- ---- what it has settled
  denies_seen : (leaf : Leaf) → d.first ≡ Some leaf → IsFirstDenied need j.seen (Some leaf)
  denies_seen leaf is = subst (IsFirstDenied need j.seen) is j.state.first

  pub settled_denied : is_some d.first ≡ true → Settles readings need
  settled_denied there = go d.first refl there
    where
      go : (first : Option Leaf) → d.first ≡ first → is_some first ≡ true → Settles readings need
      go None is e = absurd (false≢true e)
      go (Some leaf) is e =
          let at = denies_seen leaf is in
          subst (λ xs. Settles xs need) (sym j.parts) (settles_more j.seen j.unseen need (inr (at.0, leaf, at.1.0, at.1.1)))

  -- where no leaf is denied it has looked at all
  whole : d.first ≡ None → readings ≡ j.seen
  whole none = elim j.ended [
    | inl all ↦ j.parts ∙ ap (λ xs. j.seen ++ xs) all ∙ append-nil j.seen
    | inr denied ↦ absurd (both_ways _ (ap is_some none) denied)
  ]

  pub all_seen : d.first ≡ None → IsDeciders need readings d
  all_seen none =
      let is : readings ≡ j.seen = whole none in
      let same : min (length j.seen) (2 ^ 64 - 1) ≡ d.passed = ap (λ xs. min (length xs) (2 ^ 64 - 1)) (sym is) ∙ sym j.passed in
      subst (λ xs. IsDeciders need xs d) (sym is) (subst (λ n. IsDeciders need j.seen (record d { passed = n })) same j.state)

  pub settled_open : d.first ≡ None → (leaf : Leaf) → d.open leaf ≡ true → Settles readings need → ⊥
  settled_open none leaf still (inl all) = left_unallowed need readings d (all_seen none) leaf still all
  settled_open none leaf still (inr e) =
      both_ways _ (none_denied need readings d (all_seen none) none e.1)
      (and_from _ _ e.2 (ap (λ o. option_map_or (λ (x : ℕ × Reading). denying_read x.1) o false) (decides_found bears_read e.1 readings e.0 e.3.0 e.3.1) ∙ e.3.2))

  pub settled_allowed : d.first ≡ None → ((leaf : Leaf) → d.open leaf ≡ false) → Settles readings need
  settled_allowed none shut = inl (outcome_allowed need readings d (all_seen none) none shut)

  pub settled_tells : d.first ≡ None → (least : Option Leaf) → IsLeast d.open least → (is_some least ≡ false) ↔ Settles readings need
  settled_tells none None shut = (λ e. settled_allowed none shut, λ settled. refl)
  settled_tells none (Some leaf) least = (λ e. absurd (both_ways _ e refl), λ settled. absurd (settled_open none leaf least.0 settled))

  pub unsettled_none : (Settles readings need → ⊥) → d.first ≡ None
  unsettled_none never = go d.first refl
    where
      go : (first : Option Leaf) → d.first ≡ first → d.first ≡ None
      go None is = is
      go (Some leaf) is = absurd (never (settled_denied (ap is_some is)))

  -- a settled need stays settled
  pub settled_more : Settles readings need → (more : List Reading) → IsJudged need (readings ++ more) (record d { passed = min (length (readings ++ more)) (2 ^ 64 - 1) })
  settled_more settled more = go d.first refl
    where
      go : (first : Option Leaf) → d.first ≡ first → IsJudged need (readings ++ more) (record d { passed = min (length (readings ++ more)) (2 ^ 64 - 1) })
      go None is = judged need (readings ++ more) (record d { passed = min (length (readings ++ more)) (2 ^ 64 - 1) })
          (decided_more need readings d (all_seen is)
          (λ leaf. elim (cases_Bool (d.open leaf)) [ inl still ↦ absurd (settled_open is leaf still settled) | inr shut ↦ shut ])
          more (record d { passed = min (length (readings ++ more)) (2 ^ 64 - 1) }) refl refl refl refl refl refl)
      go (Some leaf) is = record {
        seen = j.seen;
        unseen = j.unseen ++ more;
        parts = ap (λ xs. xs ++ more) j.parts ∙ append_assoc j.seen j.unseen more;
        state = j.state;
        passed = refl;
        ended = inr (ap is_some is);
      }

  -- ---- what it answers
  pub judged_denied : (leaf : Leaf) (i : ℕ) → d.first ≡ Some leaf → i ≡ index_in d.indexes leaf → length readings < 2 ^ 64 → IsDenialRead readings need leaf (Some i)
  judged_denied leaf i is index few =
      let long : length readings ≡ length j.seen + length j.unseen = ap length j.parts ∙ length-append j.seen j.unseen in
      let here = outcome_denied need j.seen (record d { passed = min (length j.seen) (2 ^ 64 - 1) }) j.state leaf i is index (omega (arith, few, long)) in
      subst (λ xs. IsDenialRead xs need leaf (Some i)) (sym j.parts) (denial_more bears_read denying_read j.seen j.unseen need leaf i here)

  pub judged_denies : (leaf : Leaf) → d.first ≡ Some leaf → IsAllowedRead readings need → ⊥
  judged_denies leaf is all =
      let at = denies_seen leaf is in
      denied_or_allowed bears_read denying_read readings need leaf (Some at.0)
      (subst (λ xs. IsDenialRead xs need leaf (Some at.0)) (sym j.parts) (denial_more bears_read denying_read j.seen j.unseen need leaf at.0 at.1)) all
