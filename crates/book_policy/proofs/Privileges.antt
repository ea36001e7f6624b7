-- The leaves of named privileges.
use Rattle.book_policy.proofs.Common.{◌≡◌, ◌≤◌, ◌<◌, ℕ, List, [], ◌∷◌, length, drop, Bool, refl, sym, ap, ◌∙◌, subst, arith, All, AllByRecursion}
use mathlib.Core.Bool.{or-false, or_assoc}
use Rattle.std.proofs.Common.{◌+◌, get_or}
use Rattle.std.proofs.lemmas.Bool.{or_left}
use Rattle.std.proofs.lemmas.List.{drop_more}
use Rattle.std.proofs.lemmas.List.Elements.{All-head}
use Rattle.std.proofs.Math.ListN.{drop_of_length-le}
use Rattle.book_rights.specs.Leaves.{no_leaf, union}
use Rattle.book_rights.specs.Privileges.{contained, name_of}
use Rattle.book_rights.specs.declared.privileges.Leaf.{Leaf}
use Rattle.book_rights.specs.declared.privileges.Leaf.TheVariants.{ReadTexts, WriteContent, WriteProperties, Bind, Unbind, ReadAcl, WriteAcl, ReadCurrentUserPrivilegeSet, ReadNames}
use Rattle.book_rights.specs.declared.privileges.Privilege.{Privilege}
use Rattle.book_rights.specs.declared.privileges.Privilege.TheVariants.{One, Read, Write, All as Whole}
use Rattle.book_policy_values.specs.Policies.{HoldsSome}
use Rattle.book_policy.specs.Rules.{IsPrivilegeName, leaves_named, leaves_of}
use Rattle.book_policy_faults.specs.Values.{all_privileges}

pub leaves_of_name : (p : Privilege) → leaves_named all_privileges (name_of p) ≡ contained p
leaves_of_name (One ReadTexts) = refl
leaves_of_name (One WriteContent) = refl
leaves_of_name (One WriteProperties) = refl
leaves_of_name (One Bind) = refl
leaves_of_name (One Unbind) = refl
leaves_of_name (One ReadAcl) = refl
leaves_of_name (One WriteAcl) = refl
leaves_of_name (One ReadCurrentUserPrivilegeSet) = refl
leaves_of_name (One ReadNames) = refl
leaves_of_name Read = refl
leaves_of_name Write = refl
leaves_of_name Whole = refl

pub union_later : (f g h : Leaf → Bool) → union (union f g) h ≡ union f (union g h)
union_later f g h = λ i leaf. or_assoc (f leaf) (g leaf) (h leaf) i

pub union_none : (f : Leaf → Bool) → union f no_leaf ≡ f
union_none f = λ i leaf. or-false (f leaf) i

-- one name more
pub one_more : (set : Leaf → Bool) (p : Privilege) (name : List ℕ) (names : List (List ℕ)) → name ≡ name_of p
    → union (union set (contained p)) (leaves_of names) ≡ union set (leaves_of (name ∷ names))
one_more set p name names is =
    let named : contained p ≡ leaves_named all_privileges name = sym (leaves_of_name p) ∙ ap (leaves_named all_privileges) (sym is) in
    ap (λ f. union (union set f) (leaves_of names)) named ∙ union_later set (leaves_named all_privileges name) (leaves_of names)

some_leaf : (p : Privilege) → HoldsSome (contained p)
some_leaf (One ReadTexts) = (ReadTexts, refl)
some_leaf (One WriteContent) = (WriteContent, refl)
some_leaf (One WriteProperties) = (WriteProperties, refl)
some_leaf (One Bind) = (Bind, refl)
some_leaf (One Unbind) = (Unbind, refl)
some_leaf (One ReadAcl) = (ReadAcl, refl)
some_leaf (One WriteAcl) = (WriteAcl, refl)
some_leaf (One ReadCurrentUserPrivilegeSet) = (ReadCurrentUserPrivilegeSet, refl)
some_leaf (One ReadNames) = (ReadNames, refl)
some_leaf Read = (ReadTexts, refl)
some_leaf Write = (Bind, refl)
some_leaf Whole = (ReadTexts, refl)

-- names of privileges hold a leaf, if there are any
pub holds_some : (names : List (List ℕ)) → 1 ≤ length names → All IsPrivilegeName names → HoldsSome (leaves_of names)
holds_some [] h all = absurd (omega (arith, h))
holds_some (name ∷ names) h all =
    let first = All-head IsPrivilegeName name names all in
    let leaf = some_leaf first.0 in
    let named : contained first.0 ≡ leaves_named all_privileges name = sym (leaves_of_name first.0) ∙ ap (leaves_named all_privileges) (sym first.1) in
    (leaf.0, or_left (leaves_named all_privileges name leaf.0) (leaves_of names leaf.0) (ap (λ f. f leaf.0) (sym named) ∙ leaf.1))

-- ---- a loop over the names
pub record Follows (names : List (List ℕ)) (i : ℕ) (set : Leaf → Bool) : Type 0 where
  pub fits : AllByRecursion IsPrivilegeName (drop i names) → AllByRecursion IsPrivilegeName names
  pub fit : AllByRecursion IsPrivilegeName names → AllByRecursion IsPrivilegeName (drop i names)
  pub all : union set (leaves_of (drop i names)) ≡ leaves_of names

pub one_more_after : (names : List (List ℕ)) (i : ℕ) (set next : Leaf → Bool) (p : Privilege) (d : List ℕ) → i < length names → get_or names i d ≡ name_of p
    → next ≡ union set (contained p) → Follows names i set → Follows names (i + 1) next
one_more_after names i set next p d within is step f =
    let more : drop i names ≡ get_or names i d ∷ drop (i + 1) names = drop_more names i d within in record {
      fits = λ rest. f.fits (subst (AllByRecursion IsPrivilegeName) (sym more) ((p, is), rest));
      fit = λ every. (subst (AllByRecursion IsPrivilegeName) more (f.fit every)).1;
      all = ap (λ s. union s (leaves_of (drop (i + 1) names))) step ∙ one_more set p (get_or names i d) (drop (i + 1) names) is
          ∙ ap (λ ns. union set (leaves_of ns)) (sym more) ∙ f.all;
    }

pub all_named : (names : List (List ℕ)) (i : ℕ) (set : Leaf → Bool) → length names ≤ i → Follows names i set → (set ≡ leaves_of names) × AllByRecursion IsPrivilegeName names
all_named names i set over f =
    let none : drop i names ≡ [] = drop_of_length-le names over in (
      sym (union_none set) ∙ ap (λ ns. union set (leaves_of ns)) (sym none) ∙ f.all,
      f.fits (subst (AllByRecursion IsPrivilegeName) (sym none) tt),
    )
