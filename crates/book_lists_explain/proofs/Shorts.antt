-- Lists of short names.
use Rattle.book_lists_explain.proofs.Common.{◌≡◌, ℕ, ◌+◌, ◌<◌, append-nil, Bool, true, false, [], ◌∷◌, ◌++◌, take, get_or, Option, Some, None, refl, sym, ap, ◌∙◌, filter_map, false≢true, take_more, Leaf, Privilege, short_name, all_leaves}
use Rattle.std.proofs.Common.{not, is_some}
use Rattle.std.proofs.lemmas.Bool.{and_parts}
use Rattle.std.proofs.lemmas.List.Elements.{filter_map-append}
use Rattle.book_rights.specs.declared.privileges.Leaf.TheVariants.{ReadTexts}
use Rattle.book_rights.specs.Leaves.{each_leaf, difference, every_leaf, IsLeast}
use Rattle.book_lists_explain.specs.ShortNames.{has_all}

-- a set with every leaf has each
each_held : (set : Leaf → Bool) → has_all set ≡ true → (leaf : Leaf) → set leaf ≡ true
each_held set h =
    let a = and_parts _ _ h in
    let r = and_parts _ _ a.0 in
    let b = and_parts _ _ a.1 in
    let w = and_parts _ _ b.0 in
    let x = and_parts _ _ w.1 in
    let y = and_parts _ _ x.1 in
    let c = and_parts _ _ b.1 in
    let d = and_parts _ _ c.1 in
    each_leaf (λ leaf. set leaf ≡ true) r.0 w.0 x.0 y.0 y.1 c.0 d.0 d.1 r.1

pub not_all : (set : Leaf → Bool) (o : Option Leaf) → IsLeast (difference every_leaf set) o → is_some o ≡ true → has_all set ≡ false
not_all set None l n = absurd (false≢true n)
not_all set (Some leaf) l n = go (has_all set) refl
  where
    go : (b : Bool) → has_all set ≡ b → b ≡ false
    go true e = absurd (false≢true (sym (ap not (each_held set e leaf)) ∙ l.0))
    go false e = refl

module _ {X Y : Type 0} (h : X → Option Y) where
  named : (x : X) (y : Y) → h x ≡ Some y → filter_map h (x ∷ []) ≡ y ∷ []
  named x y e = rw e refl

  unnamed : (x : X) → h x ≡ None → filter_map h (x ∷ []) ≡ []
  unnamed x e = rw e refl

-- one leaf more
pub names_more : (set : Leaf → Bool) (i : ℕ) → i < 9 → (y : Privilege) → short_name set (get_or all_leaves i ReadTexts) ≡ Some y → filter_map (short_name set) (take (i + 1) all_leaves) ≡ filter_map (short_name set) (take i all_leaves) ++ y ∷ []
names_more set i lt y e =
    ap (filter_map (short_name set)) (take_more all_leaves i ReadTexts lt) ∙ filter_map-append (short_name set) (take i all_leaves) _
    ∙ ap (λ ys. filter_map (short_name set) (take i all_leaves) ++ ys) (named (short_name set) _ y e)

pub names_same : (set : Leaf → Bool) (i : ℕ) → i < 9 → short_name set (get_or all_leaves i ReadTexts) ≡ None → filter_map (short_name set) (take (i + 1) all_leaves) ≡ filter_map (short_name set) (take i all_leaves)
names_same set i lt e =
    ap (filter_map (short_name set)) (take_more all_leaves i ReadTexts lt) ∙ filter_map-append (short_name set) (take i all_leaves) _
    ∙ ap (λ ys. filter_map (short_name set) (take i all_leaves) ++ ys) (unnamed (short_name set) _ e) ∙ append-nil _
