-- The circle of a caller by the closure of memberships.
use Rattle.book_lists.proofs.Common.{◌≡◌, ℕ, Bool, true, false, List, Some, None, inl, inr, ◌↔◌, refl, sym, ap, ◌∙◌, bytes_eq, false≢true, path_cmp}
use Rattle.std.specs.FinSet as set
use Rattle.std.proofs.lemmas.Bool.{or_cases, or_left, or_right, false_from_ne_true}
use Rattle.book_lists.specs.Callers.{IsCircleByReach, ReachMakesCircles, ReachIsOne}
use Rattle.book_lists.specs.Memberships.{Memberships, IsDirect, IsReachOf}
use Rattle.book_lists.specs.PrincipalSets.{IsClosure, IsGroupsOf}
use Rattle.book_lists.specs.declared.circles.Caller.TheVariants.{Nobody, Known}
use Rattle.book_lists.proofs.Pairing.{same_path, path_itself, memberships_total, memberships_exact}
use Rattle.book_lists.proofs.PathSets.{contains-from_paths}
use Rattle.book_lists.proofs.Searches.{found_more}

-- two tests of one fact are equal
same_tests : (a b : Bool) {P : Type 0} → (a ≡ true) ↔ P → (b ≡ true) ↔ P → a ≡ b
same_tests true true x y = refl
same_tests true false x y = absurd (false≢true (y.1 (x.0 refl)))
same_tests false true x y = absurd (false≢true (x.1 (y.0 refl)))
same_tests false false x y = refl

module _ (pairs reach : Memberships) (is : IsReachOf pairs reach) (p : List ℕ) where
  -- a principal, and the groups that the closure pairs with it
  pub reached_exactly : (groups : set.FinSet path_cmp) → ((q : List ℕ) → (set.contains groups q ≡ true) ↔ IsDirect reach q p) → IsClosure pairs p (set.insert groups p)
  reached_exactly groups are q = (
    λ has. elim (or_cases (bytes_eq p q) (set.contains groups q) (sym (found_more groups p q) ∙ has)) [
      | inl same ↦ inl (same_path p q same)
      | inr held ↦ inr ((is q p).0 ((are q).0 held))
    ],
    λ b. found_more groups p q ∙ elim b [
      | inl same ↦ or_left (bytes_eq p q) _ (ap (bytes_eq p) (sym same) ∙ path_itself p)
      | inr chain ↦ or_right (bytes_eq p q) _ ((are q).1 ((is q p).1 chain))
    ],
  )

-- by the set of the groups that are kept of it
pub circle_of_groups : (reach : Memberships) (p : List ℕ) (groups : set.FinSet path_cmp) → IsGroupsOf reach p groups → IsCircleByReach reach (Known p) (Some (set.insert groups p))
circle_of_groups reach p groups are pairs is = record {
  known = refl;
  principals = reached_exactly pairs reach is p groups (λ q. (λ h. sym (are q) ∙ h, λ h. are q ∙ h));
}

-- who is kept in no group belongs to itself alone
pub circle_alone : (reach : Memberships) (p : List ℕ) → ((group : List ℕ) → IsDirect reach group p → ⊥) → IsCircleByReach reach (Known p) (Some (set.insert set.empty p))
circle_alone reach p none = circle_of_groups reach p set.empty (λ q. set.contains-empty path_cmp q ∙ sym (false_from_ne_true _ (none q)))

pub circle_of_nobody : (reach : Memberships) → IsCircleByReach reach Nobody None
circle_of_nobody reach pairs is = record { known = refl; principals = λ q. (λ h. absurd (false≢true h), λ never. absurd never) }

pub reach_makes_circles : ReachMakesCircles
reach_makes_circles pairs reach Nobody groups is are = circle_of_nobody reach pairs is
reach_makes_circles pairs reach (Known p) groups is are = record {
  known = refl;
  principals = reached_exactly pairs reach is p (set.from_list groups) (λ q. (λ h. (are q).0 (sym (contains-from_paths groups q) ∙ h), λ h. contains-from_paths groups q ∙ (are q).1 h));
}

pub reach_is_one : ReachIsOne
reach_is_one pairs reach other is are = set.same_set memberships_total memberships_exact _ _ (λ e. same_tests (set.contains reach e) (set.contains other e) (is e.group e.member) (are e.group e.member))
