-- A question has one answer at most.
use Rattle.book_lists_explain.proofs.Common.{◌≡◌, ℕ, Bool, List, sym, ◌∙◌, subst, Leaf, Caller, Entry, Here, Allowed, IsDenial, IfDenied, Memberships, IsAnswer}
use Rattle.std.proofs.Common.{◌↔◌}
use Rattle.book_lists.specs.Decisions.{IsAllowed, IsGrantedSet}
use Rattle.book_lists.proofs.OneOutcome.{one_circle, one_outcome, one_grant}
use Rattle.book_lists_explain.specs.Answers.{answer_text}

pub one_answer : (pairs : Memberships) (caller : Caller) (need : Leaf → Bool) (here : Here) (entries : List Entry) (s t : List ℕ)
    → IsAnswer pairs caller need here entries s → IsAnswer pairs caller need here entries t → s ≡ t
one_answer pairs caller need here entries s t a b =
    let circle : a.circle ≡ b.circle = one_circle pairs caller a.circle b.circle a.expanded b.expanded in
    let allowed = subst (λ c. (a.outcome ≡ Allowed) ↔ IsAllowed entries c here need) circle a.allowed in
    let denied = subst (λ c. IfDenied a.outcome (IsDenial entries c here need)) circle a.denied in
    let grants = subst (λ c. IsGrantedSet entries c here a.granted) circle a.grants in
    let outcome : a.outcome ≡ b.outcome = one_outcome entries b.circle here need a.outcome b.outcome allowed denied b.allowed b.denied in
    let granted : a.granted ≡ b.granted = one_grant entries b.circle here a.granted b.granted grants b.grants in
    a.told ∙ (λ i. answer_text need (outcome i) (granted i)) ∙ sym b.told
