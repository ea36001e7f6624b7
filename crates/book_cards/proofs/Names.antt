-- Where a content line may be cut.
use Rattle.book_cards.proofs.Common.{◌≡◌, ◌≢◌, ℕ, zero, suc, ◌+◌, ◌<◌, Bool, true, false, cond, Option, Some, None, List, [], ◌∷◌, length, drop, get_or, refl, ap, sym, ◌∙◌, subst, arith, eqb, option_map, option_and_then, IsCharBoundary-after_ascii, Fields, is_name_byte, name_length, colon_from, fields_of}
use Rattle.std.proofs.Common.{not, ◌&&◌}
use Rattle.std.specs.Str.{IsUtf8, IsCharBoundary}
use Rattle.std.proofs.lemmas.Str.{IsCharBoundary-start}
use Rattle.std.proofs.lemmas.List.Sums.{fails_before_first}
use Rattle.book_cards.specs.declared.line.Position.{Position}
use Rattle.book_cards.specs.Reading.{name_at, after_name, may_end, next, grouped, fields_with}
use Rattle.book_cards.proofs.Folds.{eqb_is}

small_name : (b : ℕ) → not (is_name_byte b) ≡ false → b < 128
small_name b e = grind arith

name_len_le : (bs : List ℕ) → name_length bs < length bs + 1
name_len_le [] = omega arith
name_len_le (b ∷ bs) = at (not (is_name_byte b)) (name_len_le bs)
  where
    at : (t : Bool) → name_length bs < length bs + 1 → cond (not t) (1 + name_length bs) 0 < length (b ∷ bs) + 1
    at true h = omega arith
    at false h = omega arith

boundary_at : (bs : List ℕ) (n : ℕ) → IsUtf8 bs → n ≡ name_length bs → IsCharBoundary bs n
boundary_at bs zero utf8 e = IsCharBoundary-start bs utf8
boundary_at bs (suc n) utf8 e =
    let small : get_or bs n 0 < 128 = small_name (get_or bs n 0) (fails_before_first (λ b. not (is_name_byte b)) bs n 0 (omega arith)) in
    subst (IsCharBoundary bs) (omega arith) (IsCharBoundary-after_ascii bs n utf8 (omega (arith, name_len_le bs)) small)

-- after a name
pub name_boundary : (bs : List ℕ) → IsUtf8 bs → IsCharBoundary bs (name_length bs)
name_boundary bs utf8 = boundary_at bs (name_length bs) utf8 refl

and_left : (p q : Bool) → (p && q) ≡ true → p ≡ true
and_left true q e = refl
and_left false q e = cc

-- a colon stands where one was found
pub at_colon : (position : Position) (bs : List ℕ) (n : ℕ) → colon_from position bs ≡ Some n → (n < length bs) × (get_or bs n 0 ≡ 58)
at_colon position [] n e = cc
at_colon position (b ∷ bs) n e = here (λ q m h. at_colon q bs m h) (eqb b 58 && may_end position) refl e
  where
    after : ((q : Position) (m : ℕ) → colon_from q bs ≡ Some m → (m < length bs) × (get_or bs m 0 ≡ 58)) → (q : Position) (r : Option ℕ) → r ≡ colon_from q bs → option_map (λ m. m + 1) r ≡ Some n → (n < length (b ∷ bs)) × (get_or (b ∷ bs) n 0 ≡ 58)
    after later q None is f = cc
    after later q (Some m) is f =
        let found = later q m (sym is) in
        let next_position : suc m ≡ n = grind arith in
        subst (λ (k : ℕ). (k < length (b ∷ bs)) × (get_or (b ∷ bs) k 0 ≡ 58)) next_position (omega (arith, found.0), found.1)

    past : ((q : Position) (m : ℕ) → colon_from q bs ≡ Some m → (m < length bs) × (get_or bs m 0 ≡ 58)) → (o : Option Position) → option_and_then (λ q. option_map (λ m. m + 1) (colon_from q bs)) o ≡ Some n → (n < length (b ∷ bs)) × (get_or (b ∷ bs) n 0 ≡ 58)
    past later None f = cc
    past later (Some q) f = after later q (colon_from q bs) refl f

    here : ((q : Position) (m : ℕ) → colon_from q bs ≡ Some m → (m < length bs) × (get_or bs m 0 ≡ 58)) → (t : Bool) → (eqb b 58 && may_end position) ≡ t → cond t (Some 0) (option_and_then (λ q. option_map (λ m. m + 1) (colon_from q bs)) (next position b)) ≡ Some n
        → (n < length (b ∷ bs)) × (get_or (b ∷ bs) n 0 ≡ 58)
    here later true is f =
        let none : 0 ≡ n = grind arith in
        subst (λ (k : ℕ). (k < length (b ∷ bs)) × (get_or (b ∷ bs) k 0 ≡ 58)) none (omega arith, eqb_is b 58 (and_left (eqb b 58) (may_end position) is))
    here later false is f = past later (next position b) f

no_dot : (rest : List ℕ) → ((more : List ℕ) → rest ≢ 46 ∷ more) → eqb (get_or rest 0 0) 46 ≡ false
no_dot [] h = refl
no_dot (b ∷ rest) h = at (eqb b 46) refl
  where
    at : (t : Bool) → eqb b 46 ≡ t → eqb b 46 ≡ false
    at true e = absurd (h rest (ap (λ n. n ∷ rest) (eqb_is b 46 e)))
    at false e = e

-- a line whose first name is followed by no full stop has no group
pub ungrouped : (text first rest : List ℕ) (r : Option Fields) → first ≡ name_at text → rest ≡ after_name text → ((more : List ℕ) → rest ≢ 46 ∷ more)
    → r ≡ fields_with None first rest → r ≡ fields_of text
ungrouped text first rest r name after none is =
    is ∙ ap (λ t. fields_with None t rest) name ∙ ap (λ t. fields_with None (name_at text) t) after
    ∙ sym (ap (λ t. cond t (grouped (name_at text) (drop 1 (after_name text))) (fields_with None (name_at text) (after_name text)))
    (no_dot (after_name text) (λ more e. none more (after ∙ e))))
