-- A widened list decides a widened need as the list decided the need.
use Rattle.book_lists.proofs.Common.{◌≡◌, ℕ, zero, suc, ◌≤◌, inl, inr, Bool, true, false, ◌&&◌, ◌||◌, List, [], ◌∷◌, map, cond, Option, Some, None, slice_get, refl, sym, ap, ◌∙◌, subst, arith, both_ways, Leaf, Entry, Here, CircleOf, IsDenial}
use Rattle.std.proofs.Common.{option_map}
use Rattle.std.specs.List.{AllByRecursion}
use Rattle.book_rights.specs.declared.privileges.Leaf.TheVariants.{ReadTexts, WriteContent, WriteProperties, Bind, Unbind, ReadAcl, WriteAcl, ReadCurrentUserPrivilegeSet, ReadNames}
use Rattle.book_rights.specs.declared.privileges.Privilege.TheVariants.{One, Read}
use Rattle.book_rights.specs.Leaves.{place_of, each_leaf, leaves_in, same_leaves, same_leaves-decides, all_below_tells}
use Rattle.book_rights.specs.Privileges.{name_of, denied_name}
use Rattle.book_lists.specs.Decisions.{bears, Decides, Denies, Grants, IsUndecided, IsGrantedSet}
use Rattle.book_lists.specs.Entries.{applies}
use Rattle.book_lists.specs.Widening.{IsOfFirst, widened, widened_entry, first_name, WidenedListsDecideAlike, widened_mask, WidenedMasksAreWidenedSets}

-- the leaf of version 1 that decides a leaf
old_of : Leaf → Leaf
old_of ReadTexts = ReadTexts
old_of WriteContent = WriteContent
old_of WriteProperties = WriteProperties
old_of Bind = Bind
old_of Unbind = Unbind
old_of ReadAcl = ReadAcl
old_of WriteAcl = WriteAcl
old_of ReadCurrentUserPrivilegeSet = ReadCurrentUserPrivilegeSet
old_of ReadNames = ReadTexts

or_false : (b : Bool) → (b || false) ≡ b
or_false true = refl
or_false false = refl

-- a widened set has a leaf where the set has the leaf of version 1
wide : (set : Leaf → Bool) → IsOfFirst set → (leaf : Leaf) → widened set leaf ≡ set (old_of leaf)
unfolding old_of
wide set old = each_leaf (λ leaf. widened set leaf ≡ set (old_of leaf))
    (or_false (set ReadTexts)) (or_false (set WriteContent)) (or_false (set WriteProperties)) (or_false (set Bind)) (or_false (set Unbind))
    (or_false (set ReadAcl)) (or_false (set WriteAcl)) (or_false (set ReadCurrentUserPrivilegeSet)) (ap (λ b. b || set ReadTexts) old)

-- a leaf of a set of version 1 is one of version 1
same_old : (set : Leaf → Bool) → IsOfFirst set → (leaf : Leaf) → set leaf ≡ true → old_of leaf ≡ leaf
unfolding old_of
same_old set old = each_leaf (λ leaf. set leaf ≡ true → old_of leaf ≡ leaf)
    (λ _. refl) (λ _. refl) (λ _. refl) (λ _. refl) (λ _. refl) (λ _. refl) (λ _. refl) (λ _. refl) (λ has. absurd (both_ways _ old has))

no_later : (leaf : Leaf) → place_of (old_of leaf) ≤ place_of leaf
unfolding old_of
no_later = each_leaf (λ leaf. place_of (old_of leaf) ≤ place_of leaf)
    (omega arith) (omega arith) (omega arith) (omega arith) (omega arith) (omega arith) (omega arith) (omega arith) (omega arith)

-- what stands at a place of a widened list is widened, and the other way round
at_wide : (entries : List Entry) (i : ℕ) (e : Entry) → slice_get entries i ≡ Some e → slice_get (map widened_entry entries) i ≡ Some (widened_entry e)
at_wide [] i e h = absurd cc
at_wide (x ∷ xs) zero e h = ap (option_map widened_entry) h
at_wide (x ∷ xs) (suc i) e h = at_wide xs i e h

from_wide : (entries : List Entry) (i : ℕ) (w : Entry) → slice_get (map widened_entry entries) i ≡ Some w → (e : Entry) × (slice_get entries i ≡ Some e) × (w ≡ widened_entry e)
from_wide [] i w h = absurd cc
from_wide (x ∷ xs) zero w h = (x, refl, cc)
from_wide (x ∷ xs) (suc i) w h = from_wide xs i w h

each_of_first : (entries : List Entry) (i : ℕ) (e : Entry) → AllByRecursion (λ (e : Entry). IsOfFirst e.set) entries → slice_get entries i ≡ Some e → IsOfFirst e.set
each_of_first [] i e all at = absurd cc
each_of_first (x ∷ xs) zero e all at = cc (all.0, at)
each_of_first (x ∷ xs) (suc i) e all at = each_of_first xs i e all.1 at

and_false : (b : Bool) → (b && false) ≡ false
and_false true = refl
and_false false = refl

module _ (circle : CircleOf) (here : Here) where
  bears_wide : (e : Entry) → IsOfFirst e.set → (leaf : Leaf) → bears circle here leaf (widened_entry e) ≡ bears circle here (old_of leaf) e
  bears_wide e old leaf = ap (λ b. applies e circle here && b) (wide e.set old leaf)

module _ (entries : List Entry) (circle : CircleOf) (here : Here) (old : AllByRecursion (λ (e : Entry). IsOfFirst e.set) entries) where
  abbrev wider : List Entry
  wider = map widened_entry entries

  of_first : (i : ℕ) (e : Entry) → slice_get entries i ≡ Some e → IsOfFirst e.set
  of_first i e at = each_of_first entries i e old at

  to_wide : (i : ℕ) (leaf : Leaf) (e : Entry) → Decides entries circle here i (old_of leaf) e → Decides wider circle here i leaf (widened_entry e)
  to_wide i leaf e d = record {
    there = at_wide entries i e d.there;
    bearing = bears_wide circle here e (of_first i e d.there) leaf ∙ d.bearing;
    first = λ k w lt at.
        let x = from_wide entries k w at in
        ap (bears circle here leaf) x.2 ∙ bears_wide circle here x.0 (of_first k x.0 x.1) leaf ∙ d.first k x.0 lt x.1;
  }

  of_wide : (i : ℕ) (leaf : Leaf) (w : Entry) → Decides wider circle here i leaf w → (e : Entry) × Decides entries circle here i (old_of leaf) e × (w ≡ widened_entry e)
  of_wide i leaf w d =
      let x = from_wide entries i w d.there in (
        x.0,
        record {
          there = x.1;
          bearing = sym (bears_wide circle here x.0 (of_first i x.0 x.1) leaf) ∙ sym (ap (bears circle here leaf) x.2) ∙ d.bearing;
          first = λ k e lt at. sym (bears_wide circle here e (of_first k e at) leaf) ∙ d.first k (widened_entry e) lt (at_wide entries k e at);
        },
        x.2,
      )

  denies_to : (i : ℕ) (leaf : Leaf) → Denies entries circle here i (old_of leaf) → Denies wider circle here i leaf
  denies_to i leaf d = (widened_entry d.0, to_wide i leaf d.0 d.1, d.2)

  denies_of : (i : ℕ) (leaf : Leaf) → Denies wider circle here i leaf → Denies entries circle here i (old_of leaf)
  denies_of i leaf d = let x = of_wide i leaf d.0 d.1 in (x.0, x.1, sym (ap (λ (e : Entry). e.deny) x.2) ∙ d.2)

  grants_to : (leaf : Leaf) → Grants entries circle here (old_of leaf) → Grants wider circle here leaf
  grants_to leaf g = (g.0, widened_entry g.1, to_wide g.0 leaf g.1 g.2, g.3)

  grants_of : (leaf : Leaf) → Grants wider circle here leaf → Grants entries circle here (old_of leaf)
  grants_of leaf g = let x = of_wide g.0 leaf g.1 g.2 in (g.0, x.0, x.1, sym (ap (λ (e : Entry). e.deny) x.2) ∙ g.3)

  undecided_to : (leaf : Leaf) → IsUndecided entries circle here (old_of leaf) → IsUndecided wider circle here leaf
  undecided_to leaf none i w d = let x = of_wide i leaf w d in none i x.0 x.1

  undecided_of : (leaf : Leaf) → IsUndecided wider circle here leaf → IsUndecided entries circle here (old_of leaf)
  undecided_of leaf none i e d = none i (widened_entry e) (to_wide i leaf e d)

  no_names : Grants entries circle here ReadNames → ⊥
  no_names g = both_ways _ (ap (λ b. applies g.1 circle here && b) (of_first g.0 g.1 g.2.there) ∙ and_false (applies g.1 circle here)) g.2.bearing

  granted_first : (set : Leaf → Bool) → IsGrantedSet entries circle here set → IsOfFirst set
  granted_first set is = go (set ReadNames) refl
    where
      go : (b : Bool) → set ReadNames ≡ b → b ≡ false
      go true e = absurd (no_names ((is ReadNames).0 e))
      go false e = refl

  granted_alike : (set : Leaf → Bool) → IsGrantedSet entries circle here set → IsGrantedSet wider circle here (widened set)
  granted_alike set is leaf =
      let same = wide set (granted_first set is) leaf in (
        λ has. grants_to leaf ((is (old_of leaf)).0 (sym same ∙ has)),
        λ g. same ∙ (is (old_of leaf)).1 (grants_of leaf g),
      )

  module _ (need : Leaf → Bool) (first : IsOfFirst need) where
    -- a leaf that is needed, and the leaf of version 1 that is
    wanted_of : (leaf : Leaf) → widened need leaf ≡ true → need (old_of leaf) ≡ true
    wanted_of leaf wanted = sym (wide need first leaf) ∙ wanted

    itself : (P : Leaf → Type 0) (leaf : Leaf) → need leaf ≡ true → P leaf → P (old_of leaf)
    itself P leaf wanted p = subst P (sym (same_old need first leaf wanted)) p

    wanted_to : (leaf : Leaf) → need leaf ≡ true → widened need leaf ≡ true
    wanted_to leaf wanted = wide need first leaf ∙ ap need (same_old need first leaf wanted) ∙ wanted

    denial_to : (leaf : Leaf) (index : Option ℕ) → IsDenial entries circle here need leaf index → IsDenial wider circle here (widened need) leaf index
    denial_to leaf (Some i) d = (
      wanted_to leaf d.0,
      denies_to i leaf (itself (Denies entries circle here i) leaf d.0 d.1),
      λ j other wanted e. elim (d.2 j (old_of other) (wanted_of other wanted) (denies_of j other e)) [
        | inl before ↦ inl before
        | inr here ↦ inr (here.0, let later = no_later other in let least = here.1 in omega (arith, least, later))
      ],
    )
    denial_to leaf None d = (
      wanted_to leaf d.0,
      undecided_to leaf (itself (IsUndecided entries circle here) leaf d.0 d.1),
      (λ other wanted none. let least = d.2 (old_of other) (wanted_of other wanted) (undecided_of other none) in let later = no_later other in omega (arith, least, later)),
      λ j other wanted e. d.3 j (old_of other) (wanted_of other wanted) (denies_of j other e),
    )

    named_alike : (leaf : Leaf) → need leaf ≡ true → name_of (denied_name leaf (widened need)) ≡ first_name leaf
    unfolding old_of
    named_alike = each_leaf (λ leaf. need leaf ≡ true → name_of (denied_name leaf (widened need)) ≡ first_name leaf)
        (λ wanted. ap (λ b. name_of (cond b Read (One ReadTexts))) (wide need first ReadNames ∙ wanted)) (λ _. refl) (λ _. refl) (λ _. refl) (λ _. refl) (λ _. refl) (λ _. refl) (λ _. refl) (λ _. refl)

pub decided_alike : WidenedListsDecideAlike
decided_alike entries circle here need old first = record {
  allowed = (
    λ all leaf wanted. grants_to entries circle here old leaf (all (old_of leaf) (wanted_of entries circle here old need first leaf wanted)),
    λ all leaf wanted. subst (Grants entries circle here) (same_old need first leaf wanted) (grants_of entries circle here old leaf (all leaf (wanted_to entries circle here old need first leaf wanted))),
  );
  denied = denial_to entries circle here old need first;
  named = named_alike entries circle here old need first;
  granted = granted_alike entries circle here old;
}

-- ---- masks
is_widened : ℕ → Bool
is_widened mask = same_leaves (leaves_in (widened_mask mask)) (widened (leaves_in mask))

pub masks_widened : WidenedMasksAreWidenedSets
unfolding is_widened
masks_widened mask below = (omega (arith, below), (same_leaves-decides _ _).0 (all_below_tells is_widened 256 mask refl below))
