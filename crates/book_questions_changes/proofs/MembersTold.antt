-- No membership is told exactly where both Offices have the same.
use Rattle.book_questions_changes.proofs.Common.{◌≡◌, ◌++◌, ◌∷◌, ◌∙◌, [], ℕ, true, false, List, Some, ap, codes, empty, map, refl, sym, Block}
use Rattle.std.proofs.Common.{cond, inl, inr, not}
use Rattle.std.specs.FinMap.{get, get-empty}
use Rattle.std.specs.FinSet as set
use Rattle.std.specs.List.{AllByRecursion}
use Rattle.book_lists.specs.Memberships.{Memberships}
use Rattle.book_lists.specs.Names.{name_cmp}
use Rattle.book_lists.specs.declared.memberships.Membership.{Membership}
use Rattle.book_office_adopting.proofs.KeptPairs.{all_same, both_within, within}
use Rattle.book_office_audit.specs.Audits.{in_order}
use Rattle.book_office_values.proofs.OneName.{some_apart}
use Rattle.book_questions_rights.proofs.Elements.{Mem, mem_left, mem_map, mem_of_map, mem_right, mem_split}
use Rattle.book_questions_differs.proofs.EachTold.{found, there}
use Rattle.book_questions_changes.specs.Members.{IsMembersText, member_blocks, missing_in, signed_block}
use Rattle.book_questions_changes.proofs.Texts.{told_nothing, tells_nothing}

-- ---- none is missing
missing_none : (others : Memberships) (list : List Membership) → AllByRecursion (λ (m : Membership). set.contains others m ≡ true) list → missing_in others list ≡ []
missing_none others [] all = refl
missing_none others (m ∷ ms) all = ap (λ b. cond (not b) (m ∷ missing_in others ms) (missing_in others ms)) all.0 ∙ missing_none others ms all.1

none_missing : (others : Memberships) (list : List Membership) → missing_in others list ≡ [] → AllByRecursion (λ (m : Membership). set.contains others m ≡ true) list
none_missing others [] e = tt
none_missing others (m ∷ ms) e = elim (set.contains others m) as (λ b. set.contains others m ≡ b → cond (not b) (m ∷ missing_in others ms) (missing_in others ms) ≡ []
    → (set.contains others m ≡ true) × AllByRecursion (λ (n : Membership). set.contains others n ≡ true) ms) [
      | true ↦ λ is rest. (is, none_missing others ms rest)
      | false ↦ λ is more. absurd cc
    ] refl e

-- ---- no block is there
some_text : (first last : Memberships) (before after : List Membership) (y : Block) → Mem y (member_blocks first last before after) → y.1 ≡ [] → ⊥
some_text first last before after y m e =
    elim (mem_split y (map (signed_block (codes "- ")) (missing_in last before)) (map (signed_block (codes "+ ")) (missing_in first after)) m) [
      | inl h ↦ let k = mem_of_map (signed_block (codes "- ")) y (missing_in last before) h in let clash : (signed_block (codes "- ") k.0).1 ≡ [] = sym (ap (λ (b : Block). b.1) k.2) ∙ e in cc
      | inr h ↦ let k = mem_of_map (signed_block (codes "+ ")) y (missing_in first after) h in let clash : (signed_block (codes "+ ") k.0).1 ≡ [] = sym (ap (λ (b : Block). b.1) k.2) ∙ e in cc
    ]

no_block : (first last : Memberships) (before after : List Membership) (y : Block) → in_order (member_blocks first last before after) ≡ [] → Mem y (member_blocks first last before after) → ⊥
no_block first last before after y e m =
    let blocks : List Block = member_blocks first last before after in
    let w = there empty blocks y m in
    let none : w.0 ≡ [] = told_nothing blocks y.0 w.0 e w.1 in
    elim (found empty blocks y.0 w.0 w.1) [
      | inl h ↦ no_key y.0 w.0 h
      | inr h ↦ some_text first last before after (y.0, w.0) h none
    ]
  where
    no_key : (k v : List ℕ) → get (empty {X = List ℕ} {R = name_cmp}) k ≡ Some v → ⊥
    no_key k v h = some_apart (sym h ∙ get-empty name_cmp k)

nobody : {A : Type 0} (xs : List A) → ((x : A) → Mem x xs → ⊥) → xs ≡ []
nobody [] h = refl
nobody (x ∷ xs) h = absurd (h x (inl refl))

-- ---- both ways
pub members_same : (first last : Memberships) (text : List ℕ) → IsMembersText first last text → text ≡ [] → first ≡ last
members_same first last text (before, after, was, is, told) e =
    let nothing : in_order (member_blocks first last before after) ≡ [] = sym told ∙ e in
    let gone : missing_in last before ≡ [] = nobody (missing_in last before) (λ m there.
    no_block first last before after (signed_block (codes "- ") m) nothing
    (mem_left _ (map (signed_block (codes "- ")) (missing_in last before)) (map (signed_block (codes "+ ")) (missing_in first after)) (mem_map (signed_block (codes "- ")) m (missing_in last before) there))) in
    let added : missing_in first after ≡ [] = nobody (missing_in first after) (λ m there.
    no_block first last before after (signed_block (codes "+ ") m) nothing
    (mem_right _ (map (signed_block (codes "- ")) (missing_in last before)) (map (signed_block (codes "+ ")) (missing_in first after)) (mem_map (signed_block (codes "+ ")) m (missing_in first after) there))) in
    both_within first last (within first last before was (none_missing last before gone)) (within last first after is (none_missing first after added))

pub same_members : (first last : Memberships) (text : List ℕ) → IsMembersText first last text → first ≡ last → text ≡ []
same_members first last text (before, after, was, is, told) e =
    let gone : missing_in last before ≡ [] = missing_none last before (all_same first last before was e) in
    let added : missing_in first after ≡ [] = missing_none first after (all_same last first after is (sym e)) in
    told ∙ (λ i. in_order (map (signed_block (codes "- ")) (gone i) ++ map (signed_block (codes "+ ")) (added i))) ∙ tells_nothing [] (λ y m. absurd m)
