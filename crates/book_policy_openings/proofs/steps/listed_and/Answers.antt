use Rattle.std.proofs.Common.{◌++◌, ◌∷◌, [], List, ℕ, map, ap, ap₂, ◌∙◌}
use Rattle.book_lists.specs.declared.memberships.Membership.{Membership}
use Rattle.book_policy_openings.proofs.steps.listed_and.Goals as goal

pub returns : goal.returns
returns c = (
  c.in_ok-listed.listed.items,
  c.in_ok-listed.ensures.pairs,
  c.in_ok-push.ensures.ok
      ∙ ap₂ (λ (xs : List (List ℕ)) (x : List ℕ). xs ++ x ∷ [])
      (c.in_ok-members.ensures ∙ ap (λ (ms : List Membership). map (λ (m : Membership). m.member) ms) c.as_slice.ensures.value)
      c.in_ok-clone.ensures.cases,
)
