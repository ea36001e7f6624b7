-- Bytes that need no escape, as the tests of sixteen find them.
use Rattle.std.proofs.Common.{◌≡◌, ℕ, zero, suc, ◌+◌, ◌≤◌, Bool, true, false, ◌||◌, cond, List, [], ◌∷◌, ◌++◌, map, length, take, drop, replicate, bit_or, eqb, ltb, refl, sym, ap, ap₂, ◌∙◌, arith, take-append-drop}
use Rattle.std.proofs.lemmas.Bool.{or_parts, not-true, eqb-false, ltb-false}
use Rattle.std.proofs.lemmas.Grind.{flat_map-append}
use Rattle.std.specs.List.{prefix_len}
use lib.Lanes.{top, zip2}
use Rattle.json.specs.Print.{escape, escape_byte}
use Rattle.json.specs.Run.{is_plain, is_stop}
use Rattle.json.proofs.Printed.Strings.{escape_byte_plain}

-- a lane that passes a test, as the machine has it
abbrev pub lane : Bool → ℕ
lane b = cond b 255 0

any_of_three : (a b c : Bool) → top 7 (bit_or (bit_or (lane a) (lane b)) (lane c)) ≡ ((a || b) || c)
any_of_three true true true = refl
any_of_three true true false = refl
any_of_three true false true = refl
any_of_three true false false = refl
any_of_three false true true = refl
any_of_three false true false = refl
any_of_three false false true = refl
any_of_three false false false = refl

-- the three tests of each byte, taken together, tell the bytes that stop a run
pub stops_found : (v : List ℕ) (n : ℕ) → length v ≡ n
    → map (top 7) (zip2 bit_or (zip2 bit_or (zip2 (λ a b. lane (eqb a b)) v (replicate n 34)) (zip2 (λ a b. lane (eqb a b)) v (replicate n 92))) (zip2 (λ a b. lane (ltb a b)) v (replicate n 32)))
    ≡ map is_stop v
stops_found [] n e = refl
stops_found (x ∷ v) zero e = absurd (omega arith)
stops_found (x ∷ v) (suc n) e = ap₂ (λ b bs. b ∷ bs) (any_of_three (eqb x 34) (eqb x 92) (ltb x 32)) (stops_found v n (omega arith))

-- bytes before the first stop are their own escape
first_plain : (p : Bool) (n k : ℕ) → suc k ≤ cond p (1 + n) 0 → (p ≡ true) × (k ≤ n)
first_plain true n k h = (refl, omega arith)
first_plain false n k h = absurd (omega arith)

plain_is_same : (x : ℕ) → is_plain x ≡ true → escape_byte x ≡ x ∷ []
plain_is_same x h =
    let none = or_parts _ _ (not-true (is_stop x) h) in
    let tests = or_parts _ _ none.0 in
    escape_byte_plain x (eqb-false x 34 tests.0) (eqb-false x 92 tests.1) (ltb-false x 32 none.1)

run_is_same : (xs : List ℕ) (k : ℕ) → k ≤ prefix_len is_plain xs → escape (take k xs) ≡ take k xs
run_is_same xs zero h = refl
run_is_same [] (suc k) h = refl
run_is_same (x ∷ xs) (suc k) h =
    let first = first_plain (is_plain x) (prefix_len is_plain xs) k h in
    ap₂ (λ a b. a ++ b) (plain_is_same x first.0) (run_is_same xs k first.1)

-- a text whose first bytes are plain, as sixteen bytes that begin as it does show it
pub run_stays : (xs v : List ℕ) (k : ℕ) → take k v ≡ take k xs → k ≤ prefix_len is_plain v → escape xs ≡ take k v ++ escape (drop k xs)
run_stays xs v k same few =
    ap escape (sym (take-append-drop k xs)) ∙ flat_map-append escape_byte (take k xs) (drop k xs)
    ∙ ap (λ l. l ++ escape (drop k xs)) (ap escape (sym same) ∙ run_is_same v k few)
