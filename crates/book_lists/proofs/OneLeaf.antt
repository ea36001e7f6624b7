-- What decides one leaf is one entry.
use Rattle.book_lists.proofs.Common.{◌≡◌, ℕ, Bool, List, Option, Leaf, Entry, Here, CircleOf, IsAllowed, IsDenial}
use Rattle.book_lists.specs.Decisions.{bears, denying, Decides, Denies, Grants}
use Rattle.book_lists.proofs.FirstBearings.{one_place, one_decider, denied_or_granted, denied_or_allowed}

module _ (entries : List Entry) (circle : CircleOf) (here : Here) where
  pub one_index : (leaf : Leaf) (i j : ℕ) (e f : Entry) → Decides entries circle here i leaf e → Decides entries circle here j leaf f → i ≡ j
  one_index = one_place (bears circle here) denying entries

  pub one_entry : (leaf : Leaf) (i j : ℕ) (e f : Entry) → Decides entries circle here i leaf e → Decides entries circle here j leaf f → e ≡ f
  one_entry = one_decider (bears circle here) denying entries

  -- a leaf is not both denied and granted
  pub denied_not_granted : (leaf : Leaf) (i : ℕ) → Denies entries circle here i leaf → Grants entries circle here leaf → ⊥
  denied_not_granted = denied_or_granted (bears circle here) denying entries

  -- a need with a denial is not allowed
  pub denied_not_allowed : (need : Leaf → Bool) (leaf : Leaf) (index : Option ℕ) → IsDenial entries circle here need leaf index → IsAllowed entries circle here need → ⊥
  denied_not_allowed = denied_or_allowed (bears circle here) denying entries
