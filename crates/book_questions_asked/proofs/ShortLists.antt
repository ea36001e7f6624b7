-- The privileges of a short list contain exactly the leaves of the set.
use Rattle.std.proofs.Common.{◌≡◌, ◌∷◌, ◌∙◌, ◌&&◌, [], Bool, true, false, List, ap, not, refl, subst, sym}
use Rattle.std.proofs.lemmas.Bool.{and_parts, false≢true}
use Rattle.std.specs.List.{list_any}
use Rattle.book_rights.specs.Leaves.{at_leaf, nine_of, no_leaf, same_leaves, same_leaves-decides, same_set, set_by_leaf, set_of-nine_of}
use Rattle.book_rights.specs.Privileges.{contained}
use Rattle.book_rights.specs.declared.privileges.Leaf.{Leaf}
use Rattle.book_rights.specs.declared.privileges.Leaf.TheVariants.{ReadTexts, WriteContent, WriteProperties, Bind, Unbind, ReadAcl, WriteAcl, ReadCurrentUserPrivilegeSet, ReadNames}
use Rattle.book_rights.specs.declared.privileges.Privilege.{Privilege}
use Rattle.book_lists_explain.specs.ShortNames.{short_list}
use Rattle.book_questions_asked.specs.Stated.{holds_some}

-- the leaves of the privileges of the short list
abbrev told : (Leaf → Bool) → Leaf → Bool
told set leaf = list_any (λ (p : Privilege). contained p leaf) (short_list set)

abbrev agree : Bool → Bool → Bool → Bool → Bool → Bool → Bool → Bool → Bool → Bool
agree a b c d e f g h i = same_leaves (at_leaf a b c d e f g h i) (told (at_leaf a b c d e f g h i))

-- a test holds of both truth values
abbrev each : (Bool → Bool) → Bool
each p = p true && p false

each_tells : (p : Bool → Bool) → each p ≡ true → (b : Bool) → p b ≡ true
each_tells p h true = (and_parts _ _ h).0
each_tells p h false = (and_parts _ _ h).1

-- the leaves of `read` and of `write` in every way, with three others
abbrev agree_with : Bool → Bool → Bool → Bool
agree_with f g h = each (λ a. each (λ b. each (λ c. each (λ d. each (λ e. each (λ i. agree a b c d e f g h i))))))

with_none : agree_with false false false ≡ true
with_none = refl

with_third : agree_with false false true ≡ true
with_third = refl

with_second : agree_with false true false ≡ true
with_second = refl

with_second_third : agree_with false true true ≡ true
with_second_third = refl

with_first : agree_with true false false ≡ true
with_first = refl

with_first_third : agree_with true false true ≡ true
with_first_third = refl

with_first_second : agree_with true true false ≡ true
with_first_second = refl

with_all : agree_with true true true ≡ true
with_all = refl

agrees_with : (f g h : Bool) → agree_with f g h ≡ true
agrees_with false false false = with_none
agrees_with false false true = with_third
agrees_with false true false = with_second
agrees_with false true true = with_second_third
agrees_with true false false = with_first
agrees_with true false true = with_first_third
agrees_with true true false = with_first_second
agrees_with true true true = with_all

agrees : (a b c d e f g h i : Bool) → agree a b c d e f g h i ≡ true
agrees a b c d e f g h i =
    each_tells (λ i. agree a b c d e f g h i)
    (each_tells (λ e. each (λ i. agree a b c d e f g h i))
    (each_tells (λ d. each (λ e. each (λ i. agree a b c d e f g h i)))
    (each_tells (λ c. each (λ d. each (λ e. each (λ i. agree a b c d e f g h i))))
    (each_tells (λ b. each (λ c. each (λ d. each (λ e. each (λ i. agree a b c d e f g h i)))))
    (each_tells (λ a. each (λ b. each (λ c. each (λ d. each (λ e. each (λ i. agree a b c d e f g h i)))))) (agrees_with f g h) a) b) c) d) e) i

whole : (set : Leaf → Bool) → set ≡ told set
whole set =
    subst (λ (s : Leaf → Bool). s ≡ told s) (set_of-nine_of set)
    ((same_leaves-decides (set_by_leaf (nine_of set)) (told (set_by_leaf (nine_of set)))).0
    (agrees (set ReadTexts) (set WriteContent) (set WriteProperties) (set Bind) (set Unbind) (set ReadAcl) (set WriteAcl) (set ReadCurrentUserPrivilegeSet) (set ReadNames)))

pub short_holds : (set : Leaf → Bool) (leaf : Leaf) → set leaf ≡ list_any (λ (p : Privilege). contained p leaf) (short_list set)
short_holds set leaf = ap (λ (f : Leaf → Bool). f leaf) (whole set)

-- a set that holds a leaf has a first short name
pub short_some : (set : Leaf → Bool) → holds_some set ≡ true → (p : Privilege) × (ps : List Privilege) × (short_list set ≡ p ∷ ps)
short_some set h = go (short_list set) refl
  where
    go : (names : List Privilege) → short_list set ≡ names → (p : Privilege) × (ps : List Privilege) × (short_list set ≡ p ∷ ps)
    go [] e =
        let none : set ≡ no_leaf = same_set set no_leaf (λ leaf. short_holds set leaf ∙ ap (list_any (λ (p : Privilege). contained p leaf)) e) in
        absurd (false≢true (sym (ap not ((same_leaves-decides set no_leaf).1 none)) ∙ h))
    go (p ∷ ps) e = (p, ps, e)
