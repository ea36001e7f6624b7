-- The paths of principals have no slash at their end.
use Rattle.book_lists.proofs.Common.{◌≡◌, ℕ, ◌+◌, ◌-◌, ◌<◌, List, [], ◌∷◌, ◌++◌, length, get_or, sym, ap, ◌∙◌, subst, arith, length-append, inl, inr, IsTrue, false≢true}
use Rattle.std.proofs.Common.{codes}
use Rattle.std.proofs.lemmas.List.{get_or-append-add}
use Rattle.std.proofs.Math.Seq.{get_or-append_seam}
use Rattle.book_lists.specs.Names.{IsName, is_name_byte}
use Rattle.book_lists.specs.Principals.{IsPrincipal, EndsPlain}

last_byte : (home name front : List ℕ) → 0 < length name → home ++ name ≡ front ++ 47 ∷ [] → get_or name (length name - 1) 0 ≡ 47
last_byte home name front some e =
    let last : length home + (length name - 1) ≡ length front = omega (arith, simp length-append at (ap length e)) in
    sym (get_or-append-add home name (length name - 1) 0) ∙ ap (λ xs. get_or xs (length home + (length name - 1)) 0) e
    ∙ ap (λ i. get_or (front ++ 47 ∷ []) i 0) last ∙ get_or-append_seam front 47 [] 0

no_name_ends : (name : List ℕ) → IsName name → get_or name (length name - 1) 0 ≡ 47 → ⊥
no_name_ends name is last =
    let P : ℕ → Type 0 = λ b. IsTrue (is_name_byte b) in
    let some = is.some in
    false≢true (subst P last (is.each (length name - 1) 0 (omega arith)))

pub ends_plain : (path : List ℕ) → IsPrincipal path → EndsPlain path
ends_plain path (inl person) front e =
    no_name_ends person.0 person.1 (last_byte (codes "/people/") person.0 front person.1.some (sym person.2 ∙ e))
ends_plain path (inr group) front e =
    no_name_ends group.0 group.1 (last_byte (codes "/groups/") group.0 front group.1.some (sym group.2 ∙ e))
