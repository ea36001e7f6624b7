-- One leaf more.
use Rattle.book_office_listings.proofs.Common.{◌≡◌, ℕ, ◌+◌, ◌<◌, append-nil, [], ◌∷◌, ◌++◌, take, get_or, Option, Some, None, ap, ◌∙◌, refl, filter_map, take_more, Leaf, all_leaves}
use Rattle.std.proofs.lemmas.List.Elements.{filter_map-append}
use Rattle.book_rights.specs.declared.privileges.Leaf.TheVariants.{ReadTexts}
use Rattle.book_rights.specs.declared.privileges.Privilege.{Privilege}

module _ (h : Leaf → Option Privilege) where
  named : (x : Leaf) (y : Privilege) → h x ≡ Some y → filter_map h (x ∷ []) ≡ y ∷ []
  named x y e = rw e refl

  unnamed : (x : Leaf) → h x ≡ None → filter_map h (x ∷ []) ≡ []
  unnamed x e = rw e refl

  pub leaf_more : (i : ℕ) → i < 9 → (y : Privilege) → h (get_or all_leaves i ReadTexts) ≡ Some y → filter_map h (take (i + 1) all_leaves) ≡ filter_map h (take i all_leaves) ++ y ∷ []
  leaf_more i lt y e =
      ap (filter_map h) (take_more all_leaves i ReadTexts lt) ∙ filter_map-append h (take i all_leaves) _
      ∙ ap (λ ys. filter_map h (take i all_leaves) ++ ys) (named _ y e)

  pub leaf_same : (i : ℕ) → i < 9 → h (get_or all_leaves i ReadTexts) ≡ None → filter_map h (take (i + 1) all_leaves) ≡ filter_map h (take i all_leaves)
  leaf_same i lt e =
      ap (filter_map h) (take_more all_leaves i ReadTexts lt) ∙ filter_map-append h (take i all_leaves) _
      ∙ ap (λ ys. filter_map h (take i all_leaves) ++ ys) (unnamed _ e) ∙ append-nil _
