-- A set of leaves is told by its short names.
use Rattle.book_dumps.proofs.Common.{◌≡◌, ℕ, List, [], ◌∷◌, refl, sym, ap, ◌∙◌, arith, codes, length}
use Rattle.std.proofs.Common.{zero, suc, true, false, Bool, ◌&&◌, cond, true≢false}
use Rattle.std.specs.List.{list_any}
use Rattle.book_rights.specs.Leaves.{set_of-nine_of, same_leaves, same_leaves-decides, at_leaf}
use Rattle.book_rights.specs.Privileges.{contained, name_of}
use Rattle.book_rights.specs.declared.privileges.Leaf.{Leaf}
use Rattle.book_rights.specs.declared.privileges.Leaf.TheVariants.{ReadTexts, WriteContent, WriteProperties, Bind, Unbind, ReadAcl, WriteAcl, ReadCurrentUserPrivilegeSet, ReadNames}
use Rattle.book_rights.specs.declared.privileges.Privilege.{Privilege}
use Rattle.book_rights.specs.declared.privileges.Privilege.TheVariants.{One, Read, Write, All}
use Rattle.book_lists_explain.specs.ShortNames.{short_list}
use Rattle.book_office_values.proofs.NameMapLaws.{same}

-- the leaves that names hold
abbrev held_by : List Privilege → Leaf → Bool
held_by names leaf = list_any (λ p. contained p leaf) names

-- ---- what holds of all truth values
abbrev all_lists : ℕ → (List Bool → Bool) → Bool
all_lists zero f = f []
all_lists (suc n) f = all_lists n (λ bs. f (true ∷ bs)) && all_lists n (λ bs. f (false ∷ bs))

both : (a b : Bool) → (a && b) ≡ true → (a ≡ true) × (b ≡ true)
both true b h = (refl, h)
both false b h = absurd (true≢false (sym h))

each_list : (n : ℕ) (f : List Bool → Bool) → all_lists n f ≡ true → (bs : List Bool) → length bs ≡ n → f bs ≡ true
each_list zero f all [] e = all
each_list zero f all (b ∷ bs) e = absurd (omega (arith, e))
each_list (suc n) f all [] e = absurd (omega (arith, e))
each_list (suc n) f all (true ∷ bs) e = each_list n (λ bs. f (true ∷ bs)) (both _ _ all).0 bs (omega (arith, e))
each_list (suc n) f all (false ∷ bs) e = each_list n (λ bs. f (false ∷ bs)) (both _ _ all).1 bs (omega (arith, e))

abbrev set_at : List Bool → Leaf → Bool
set_at (a ∷ b ∷ c ∷ d ∷ e ∷ f ∷ g ∷ h ∷ i ∷ []) = at_leaf a b c d e f g h i
set_at _ = λ leaf. false

abbrev is_told : List Bool → Bool
is_told bs = same_leaves (held_by (short_list (set_at bs))) (set_at bs)

abbrev bits_of : (Leaf → Bool) → List Bool
bits_of s =
    s ReadTexts ∷ s WriteContent ∷ s WriteProperties ∷ s Bind ∷ s Unbind ∷ s ReadAcl ∷ s WriteAcl ∷ s ReadCurrentUserPrivilegeSet ∷ s ReadNames ∷ []

-- the short names of a set hold its leaves
told_by_names : (s : Leaf → Bool) → held_by (short_list s) ≡ s
told_by_names s =
    let is : set_at (bits_of s) ≡ s = set_of-nine_of s in
    let told : same_leaves (held_by (short_list (set_at (bits_of s)))) (set_at (bits_of s)) ≡ true = each_list 9 is_told refl (bits_of s) refl in
    ap (λ t. held_by (short_list t)) (sym is) ∙ (same_leaves-decides (held_by (short_list (set_at (bits_of s)))) (set_at (bits_of s))).0 told ∙ is

-- the privilege that a name names
abbrev named : List ℕ → Privilege
named name =
    cond (same name (codes "all")) All (cond (same name (codes "write")) Write (cond (same name (codes "read")) Read
    (cond (same name (codes "x-read-texts")) (One ReadTexts) (cond (same name (codes "write-content")) (One WriteContent)
    (cond (same name (codes "write-properties")) (One WriteProperties) (cond (same name (codes "bind")) (One Bind) (cond (same name (codes "unbind")) (One Unbind)
    (cond (same name (codes "read-acl")) (One ReadAcl) (cond (same name (codes "write-acl")) (One WriteAcl)
    (cond (same name (codes "read-current-user-privilege-set")) (One ReadCurrentUserPrivilegeSet) (One ReadNames)))))))))))

named_back : (p : Privilege) → named (name_of p) ≡ p
named_back (One ReadTexts) = refl
named_back (One WriteContent) = refl
named_back (One WriteProperties) = refl
named_back (One Bind) = refl
named_back (One Unbind) = refl
named_back (One ReadAcl) = refl
named_back (One WriteAcl) = refl
named_back (One ReadCurrentUserPrivilegeSet) = refl
named_back (One ReadNames) = refl
named_back Read = refl
named_back Write = refl
named_back All = refl

pub privilege_alike : (p q : Privilege) → name_of p ≡ name_of q → p ≡ q
privilege_alike p q e = sym (named_back p) ∙ ap named e ∙ named_back q

-- sets with the same short names are equal
pub set_alike : (s t : Leaf → Bool) → short_list s ≡ short_list t → s ≡ t
set_alike s t e = sym (told_by_names s) ∙ ap held_by e ∙ told_by_names t
