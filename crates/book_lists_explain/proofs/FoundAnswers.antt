-- Each question has an answer.
use Rattle.book_lists_explain.proofs.Common.{◌≡◌, List, ℕ, Bool, true, false, inl, inr, refl, false≢true, Leaf, Caller, Entry, Here, Memberships, Allowed, IsAnswer}
use Rattle.std.proofs.Common.{◌↔◌}
use Rattle.book_lists.specs.declared.decisions.Outcome.TheVariants.{Denied}
use Rattle.book_lists.specs.Circles.{CircleOf}
use Rattle.book_lists.specs.Decisions.{Grants}
use Rattle.book_lists.proofs.Decided.{OrNot}
use Rattle.book_lists.proofs.FoundCircles.{circle_exists}
use Rattle.book_lists.proofs.OneLeaf.{denied_not_allowed, denied_not_granted}
use Rattle.book_lists_explain.specs.Answers.{answer_text}
use Rattle.book_lists_explain.proofs.FoundDecisions.{decision, found_or_not}

-- whether a fact holds
told : {P : Type 0} → OrNot P → Bool
told (inl p) = true
told (inr never) = false

told_so : {P : Type 0} (d : OrNot P) → (told d ≡ true) ↔ P
unfolding told
told_so (inl p) = (λ _. p, λ _. refl)
told_so (inr never) = (λ e. absurd (false≢true e), λ p. absurd (never p))

module _ (es : List Entry) (circle : CircleOf) (here : Here) where
  granted_or_not : (leaf : Leaf) → OrNot (Grants es circle here leaf)
  granted_or_not leaf = elim (found_or_not circle here es leaf) [
    | inl g ↦ elim (g.1.deny) as (λ b. g.1.deny ≡ b → OrNot (Grants es circle here leaf)) [
      | true ↦ λ deny. inr (λ grants. denied_not_granted es circle here leaf g.0 (g.1, g.2, deny) grants)
      | false ↦ λ grant. inl (g.0, g.1, g.2, grant)
    ] refl
    | inr none ↦ inr (λ grants. none grants.0 grants.1 grants.2)
  ]

pub answer_of : (pairs : Memberships) (caller : Caller) (need : Leaf → Bool) (here : Here) (es : List Entry) → (answer : List ℕ) × IsAnswer pairs caller need here es answer
answer_of pairs caller need here es =
    let circle = circle_exists pairs caller in
    let granted : Leaf → Bool = λ leaf. told (granted_or_not es circle.0 here leaf) in
    elim (decision es circle.0 here need) [
      | inl allowed ↦ (
        answer_text need Allowed granted,
        record {
          circle = circle.0;
          outcome = Allowed;
          granted = granted;
          expanded = circle.1;
          allowed = (λ _. allowed, λ _. refl);
          denied = tt;
          grants = λ leaf. told_so (granted_or_not es circle.0 here leaf);
          told = refl;
        },
      )
      | inr denial ↦ (
        answer_text need (Denied denial.0 denial.1) granted,
        record {
          circle = circle.0;
          outcome = Denied denial.0 denial.1;
          granted = granted;
          expanded = circle.1;
          allowed = (λ e. absurd cc, λ allowed. absurd (denied_not_allowed es circle.0 here need denial.0 denial.1 denial.2 allowed));
          denied = denial.2;
          grants = λ leaf. told_so (granted_or_not es circle.0 here leaf);
          told = refl;
        },
      )
    ]
