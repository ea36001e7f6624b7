-- What a text that tells nothing says of its parts.
use Rattle.book_questions_changes.proofs.Common.{◌≡◌, ◌++◌, ◌∷◌, ◌∙◌, ◌+◌, [], ℕ, Bool, true, false, List, Some, ap, arith, codes, empty, flat_map, gathered, nat_list_cmp_total, refl, sym, Block}
use Rattle.std.proofs.Common.{◌==◌, inl, inr, length, length-append}
use Rattle.std.specs.Prelude.{decimal, if◌then◌else◌}
use Rattle.std.specs.FinMap.{entries, get, get-empty}
use Rattle.book_lists.specs.Names.{name_cmp}
use Rattle.book_office_audit.specs.Audits.{in_order}
use Rattle.book_office_values.proofs.Members.{get_mem, mem_get}
use Rattle.book_office_values.proofs.NameMapLaws.{names_apart}
use Rattle.book_office_values.proofs.OneName.{some_apart}
use Rattle.book_questions_rights.proofs.Elements.{Mem}
use Rattle.book_questions_differs.proofs.EachTold.{found}
use Rattle.book_questions_changes.specs.Changes.{line_count, with_last}

-- ---- parts of a text
front_nothing : (a b : List ℕ) → a ++ b ≡ [] → a ≡ []
front_nothing [] b e = refl
front_nothing (x ∷ a) b e = absurd cc

pub parts_nothing : (a b : List ℕ) → a ++ b ≡ [] → (a ≡ []) × (b ≡ [])
parts_nothing a b e = let first : a ≡ [] = front_nothing a b e in (first, sym (ap (λ (t : List ℕ). t ++ b) first) ∙ e)

flat_nothing : {A : Type 0} (f : A → List ℕ) (x : A) (xs : List A) → flat_map f xs ≡ [] → Mem x xs → f x ≡ []
flat_nothing f x [] e m = absurd m
flat_nothing f x (y ∷ ys) e (inl is) = ap f is ∙ (parts_nothing (f y) (flat_map f ys) e).0
flat_nothing f x (y ∷ ys) e (inr m) = flat_nothing f x ys (parts_nothing (f y) (flat_map f ys) e).1 m

flat_of_nothing : {A : Type 0} (f : A → List ℕ) (xs : List A) → ((x : A) → Mem x xs → f x ≡ []) → flat_map f xs ≡ []
flat_of_nothing f [] h = refl
flat_of_nothing f (x ∷ xs) h = ap (λ (t : List ℕ). t ++ flat_map f xs) (h x (inl refl)) ∙ flat_of_nothing f xs (λ y m. h y (inr m))

-- ---- blocks
-- where blocks tell nothing, nothing is told at any key
pub told_nothing : (blocks : List Block) (k v : List ℕ) → in_order blocks ≡ [] → get (gathered empty blocks) k ≡ Some v → v ≡ []
told_nothing blocks k v e at =
    flat_nothing (λ (b : Block). b.1) (k, v) (entries (gathered empty blocks)) e (get_mem nat_list_cmp_total names_apart (gathered empty blocks) k v at)

pub tells_nothing : (blocks : List Block) → ((y : Block) → Mem y blocks → y.1 ≡ []) → in_order blocks ≡ []
tells_nothing blocks h = flat_of_nothing (λ (b : Block). b.1) (entries (gathered empty blocks)) (λ y m.
    elim (found empty blocks y.0 y.1 (mem_get nat_list_cmp_total names_apart (gathered empty blocks) y.0 y.1 m)) [
      | inl none ↦ some_apart (sym none ∙ get-empty name_cmp y.0)
      | inr k ↦ h y k
    ])

-- ---- the last line
pub nothing_before : (body : List ℕ) → with_last body ≡ codes "unchanged\n" → body ≡ []
nothing_before body = go (line_count body == 0)
  where
    none : (text : List ℕ) → length text ≡ 0 → text ≡ []
    none [] e = refl
    none (x ∷ text) e = absurd (omega arith)

    go : (b : Bool) → body ++ (if b then codes "unchanged\n" else codes "differs in " ++ (decimal (line_count body) ++ codes "\n")) ≡ codes "unchanged\n" → body ≡ []
    go true e =
        let total : length body + length (codes "unchanged\n") ≡ length (codes "unchanged\n") = sym (length-append body (codes "unchanged\n")) ∙ ap length e in
        none body (omega arith)
    go false e =
        let rest : List ℕ = decimal (line_count body) ++ codes "\n" in
        let total : length body + length (codes "differs in " ++ rest) ≡ 10 = sym (length-append body (codes "differs in " ++ rest)) ∙ ap length e in
        let more : length (codes "differs in " ++ rest) ≡ 11 + length rest = length-append (codes "differs in ") rest in
        absurd (omega arith)
