-- What a scan that keeps deciders tells of entries that are all read by one circle at one resource.
use Rattle.book_lists.proofs.Common.{◌≡◌, ℕ, suc, inl, inr, Bool, true, false, List, [], ◌∷◌, Option, Some, None, refl, sym, ap, ◌∙◌, subst, Leaf, CircleOf, Reading, read_by}
use Rattle.std.proofs.Common.{option_map, if◌then◌else◌}
use Rattle.book_lists.specs.Deciding.{decider}
use Rattle.book_lists.specs.declared.entries.Entry.{Entry}
use Rattle.book_lists.specs.declared.entries.Here.{Here}
use Rattle.book_lists.specs.Decisions.{bears, Decides, IsUndecided}
use Rattle.book_lists.specs.Readings.{bears_read, denying_read}
use Rattle.book_lists.specs.Deciders.{told_decider}
use Rattle.book_lists.specs.declared.deciders.Decider.{Decider}
use Rattle.book_lists.proofs.FirstFound.{found_or_none, decides_found}

same_told : (i j : ℕ) (a b : Bool) → ◌≡◌ {A = Option Decider} (Some (record { index = i; deny = a })) (Some (record { index = j; deny = b })) → (i ≡ j) × (a ≡ b)
same_told i j a b e =
    let same : ◌≡◌ {A = Decider} (record { index = i; deny = a }) (record { index = j; deny = b }) = cc in
    (ap (λ (d : Decider). d.index) same, ap (λ (d : Decider). d.deny) same)

none_told : (d : Decider) → ◌≡◌ {A = Option Decider} None (Some d) → ⊥
none_told d e = absurd cc

-- ---- entries that are all read by one circle at one resource
module _ (circle : CircleOf) (here : Here) (leaf : Leaf) where
  abbrev reading_at : ℕ × Entry → ℕ × Reading
  reading_at found = (found.0, record { circle = circle; here = here; entry = found.1 })

  abbrev tell : Option (ℕ × Reading) → Option Decider
  tell found = option_map (λ (f : ℕ × Reading). record { index = f.0; deny = denying_read f.1 }) found

  decider_read : (entries : List Entry) → decider bears_read (read_by circle here entries) leaf ≡ option_map reading_at (decider (bears circle here) entries leaf)
  decider_read [] = refl
  decider_read (e ∷ es) = go (bears circle here leaf e) _ _ (decider_read es)
    where
      go : (b : Bool) (found : Option (ℕ × Reading)) (inner : Option (ℕ × Entry)) → found ≡ option_map reading_at inner
          → (if b then Some (0, record { circle = circle; here = here; entry = e }) else option_map (λ (f : ℕ × Reading). (suc f.0, f.1)) found)
          ≡ option_map reading_at (if b then Some (0, e) else option_map (λ (f : ℕ × Entry). (suc f.0, f.1)) inner)
      go true found inner same = refl
      go false found None same = ap (option_map (λ (f : ℕ × Reading). (suc f.0, f.1))) same
      go false found (Some f) same = ap (option_map (λ (f : ℕ × Reading). (suc f.0, f.1))) same

  -- what a scan of these entries tells of the leaf
  pub told_one : (entries : List Entry) (i : ℕ) (deny : Bool) → Some (record { index = i; deny = deny }) ≡ told_decider (read_by circle here entries) leaf
      → (entry : Entry) × Decides entries circle here i leaf entry × (deny ≡ entry.deny)
  told_one entries i deny is = elim (found_or_none (bears circle here) leaf entries) [
    | inl f ↦
        let same = same_told i f.0 deny f.1.deny (is ∙ ap tell (decider_read entries ∙ ap (option_map reading_at) f.2)) in
        (f.1, subst (λ j. Decides entries circle here j leaf f.1) (sym same.0) f.3, same.1)
    | inr none ↦ absurd (none_told (record { index = i; deny = deny }) (sym (is ∙ ap tell (decider_read entries ∙ ap (option_map reading_at) none.0))))
  ]

  pub untold_one : (entries : List Entry) → None ≡ told_decider (read_by circle here entries) leaf → IsUndecided entries circle here leaf
  untold_one entries is i entry d =
      none_told (record { index = i; deny = entry.deny }) (is ∙ ap tell (decider_read entries ∙ ap (option_map reading_at) (decides_found (bears circle here) leaf entries i entry d)))
