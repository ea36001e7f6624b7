-- The members of a list with commas, a byte at a time.
use Rattle.book_wire.proofs.Common.{◌≡◌, ℕ, ◌+◌, ◌-◌, ◌<◌, ◌≤◌, Bool, true, false, List, [], ◌∷◌, ◌++◌, length, take, drop, refl, sym, ap, ◌∙◌, append_assoc, append-nil, arith, length-take-le, has_close}
use mathlib.Core.Bool.{or-false}
use Rattle.std.proofs.Common.{◌==◌, ◌||◌, cond, get_or, eq-eqb}
use Rattle.std.proofs.lemmas.Slice.{between_is}
use Rattle.std.proofs.lemmas.List.{take_more, drop-append-le, drop_more, take_all, drop_all}
use Rattle.std.proofs.lemmas.Bool.Decides.{nat_tests}
use Rattle.std.specs.List.{list_any}
use Rattle.book_wire.specs.Members.{members_of, with_first, is_close}

-- the members that follow, the first of them begun before
abbrev pub with_front : List ℕ → List (List ℕ) → List (List ℕ)
with_front xs [] = xs ∷ []
with_front xs (m ∷ ms) = (xs ++ m) ∷ ms

front_first : (b : ℕ) (ms : List (List ℕ)) → with_front [] (with_first b ms) ≡ with_first b ms
front_first b [] = refl
front_first b (m ∷ ms) = refl

front_next : (xs : List ℕ) (b : ℕ) (ms : List (List ℕ)) → with_front xs (with_first b ms) ≡ with_front (xs ++ b ∷ []) ms
front_next xs b [] = refl
front_next xs b (m ∷ ms) = ap (λ (t : List ℕ). t ∷ ms) (sym (append_assoc xs (b ∷ []) m))

front_nil : (bs : List ℕ) → with_front [] (members_of bs) ≡ members_of bs
front_nil [] = refl
front_nil (b ∷ bs) =
    elim (b == 44) as (λ x. with_front [] (cond x ([] ∷ members_of bs) (with_first b (members_of bs))) ≡ cond x ([] ∷ members_of bs) (with_first b (members_of bs))) [
      | true ↦ refl
      | false ↦ front_first b (members_of bs)
    ]

front_comma : (xs : List ℕ) (b : ℕ) (bs : List ℕ) → (b == 44) ≡ true → with_front xs (members_of (b ∷ bs)) ≡ xs ∷ members_of bs
front_comma xs b bs e = rw e (ap (λ (t : List ℕ). t ∷ members_of bs) (append-nil xs))

front_other : (xs : List ℕ) (b : ℕ) (bs : List ℕ) → (b == 44) ≡ false → with_front xs (members_of (b ∷ bs)) ≡ with_front (xs ++ b ∷ []) (members_of bs)
front_other xs b bs e = rw e (front_next xs b (members_of bs))

-- what is left to be asked at a place, where the member there began before
abbrev pub left_at : List ℕ → ℕ → ℕ → Bool
left_at value start i = list_any is_close (with_front (drop start (take i value)) (members_of (drop i value)))

pub left_first : (value : List ℕ) → left_at value 0 0 ≡ has_close value
left_first value = ap (list_any is_close) (front_nil value)

left_comma : (value : List ℕ) (start i : ℕ) → i < length value → (get_or value i 0 == 44) ≡ true
    → left_at value start i ≡ (is_close (drop start (take i value)) || left_at value (i + 1) (i + 1))
left_comma value start i h e =
    let rest = drop (i + 1) value in
    let xs = drop start (take i value) in
    let none : drop (i + 1) (take (i + 1) value) ≡ [] = drop_all (i + 1) (take (i + 1) value) (omega (arith, length-take-le (i + 1) value (omega arith))) in
    ap (λ (t : List ℕ). list_any is_close (with_front xs (members_of t))) (drop_more value i 0 h)
    ∙ ap (list_any is_close) (front_comma xs (get_or value i 0) rest e)
    ∙ ap (λ (t : List (List ℕ)). is_close xs || list_any is_close t) (sym (front_nil rest))
    ∙ ap (λ (t : List ℕ). is_close xs || list_any is_close (with_front t (members_of rest))) (sym none)

left_other : (value : List ℕ) (start i : ℕ) → start ≤ i → i < length value → (get_or value i 0 == 44) ≡ false
    → left_at value start i ≡ left_at value start (i + 1)
left_other value start i s h e =
    let rest = drop (i + 1) value in
    let xs = drop start (take i value) in
    let b = get_or value i 0 in
    let begun : drop start (take (i + 1) value) ≡ xs ++ b ∷ [] =
    ap (drop start) (take_more value i 0 h) ∙ drop-append-le start (take i value) (b ∷ []) (omega (arith, length-take-le i value (omega arith))) in
    ap (λ (t : List ℕ). list_any is_close (with_front xs (members_of t))) (drop_more value i 0 h)
    ∙ ap (list_any is_close) (front_other xs b rest e)
    ∙ ap (λ (t : List ℕ). list_any is_close (with_front t (members_of rest))) (sym begun)

pub left_last : (value : List ℕ) (start i : ℕ) → length value ≤ i → left_at value start i ≡ is_close (drop start value)
left_last value start i h =
    ap (λ (t : List ℕ). list_any is_close (with_front (drop start t) (members_of (drop i value)))) (take_all i value h)
    ∙ ap (λ (t : List ℕ). list_any is_close (with_front (drop start value) (members_of t))) (drop_all i value h)
    ∙ ap (λ (t : List ℕ). is_close t || false) (append-nil (drop start value))
    ∙ or-false (is_close (drop start value))

-- the member that ends at a comma is `close`
pub found_close : (value : List ℕ) (start i : ℕ) → i < length value → get_or value i 0 ≡ 44 → is_close (take (i - start) (drop start value)) ≡ true
    → left_at value start i ≡ has_close value → true ≡ has_close value
found_close value start i h e close so_far =
    let piece : is_close (drop start (take i value)) ≡ true = ap is_close (sym (between_is value start i)) ∙ close in
    sym
    (sym so_far ∙ left_comma value start i h (eq-eqb (get_or value i 0) 44 e)
    ∙ ap (λ (b : Bool). b || left_at value (i + 1) (i + 1)) piece)

-- the member that ends at a comma is another
pub comma_passed : (value : List ℕ) (start i : ℕ) → i < length value → get_or value i 0 ≡ 44 → is_close (take (i - start) (drop start value)) ≡ false
    → left_at value start i ≡ has_close value → left_at value (i + 1) (i + 1) ≡ has_close value
comma_passed value start i h e other so_far =
    let piece : is_close (drop start (take i value)) ≡ false = ap is_close (sym (between_is value start i)) ∙ other in
    sym
    (sym so_far ∙ left_comma value start i h (eq-eqb (get_or value i 0) 44 e)
    ∙ ap (λ (b : Bool). b || left_at value (i + 1) (i + 1)) piece)

no_comma : (b : ℕ) → (b ≡ 44 → ⊥) → (b == 44) ≡ false
no_comma b h = grind (arith, nat_tests)

-- no member ends here
pub byte_passed : (value : List ℕ) (start i : ℕ) → start ≤ i → i < length value → (get_or value i 0 ≡ 44 → ⊥)
    → left_at value start i ≡ has_close value → left_at value start (i + 1) ≡ has_close value
byte_passed value start i s h e so_far = sym (left_other value start i s h (no_comma (get_or value i 0) e)) ∙ so_far
