-- Rows that pass the tests are those that spell entries in the one way.
use Rattle.book_tables_opening.proofs.Common.{◌≡◌, ℕ, zero, suc, pos, ◌<◌, ◌≤◌, nat_eq, Bool, true, false, cond, ◌&&◌, List, [], ◌∷◌, unwrap_or, refl, sym, ap, ◌∙◌, true≢false, arith, and_parts, Value, Null, Int, Real, Text, Blob, Row, column, Who, Href, Everyone, Authenticated, Unauthenticated, Owner, Own, number_in, text_in, flag, flag_in, principal_value, shown_protected}
use Rattle.std.proofs.Common.{negsuc, nat_lt, ◌||◌}
use Rattle.std.proofs.lemmas.Bool.{eqb-true, ltb-true, lt-ltb, and_from}
use Rattle.book_rights.specs.declared.privileges.Leaf.{Leaf}
use Rattle.book_rights.specs.declared.privileges.Leaf.TheVariants.{ReadTexts, WriteContent, WriteProperties, Bind, Unbind, ReadAcl, WriteAcl, ReadCurrentUserPrivilegeSet, ReadNames}
use Rattle.book_rights.specs.Leaves.{mask_of, mask_of-leaves_in}
use Rattle.book_tables.specs.Rows.{form_code, who_in, set_in, entry_values}
use Rattle.book_tables_opening.specs.RowTests.{is_natural, is_value_below, is_text, is_nothing, is_form, is_spelled, is_entry_row, entry_in, IsSpelledEntry}
use Rattle.book_tables_opening.specs.Shown.{shown_deny, shown_form, shown_invert, shown_mask, shown_place, shown_principal}
use Rattle.book_tables_opening.proofs.Within.{none}

-- ---- numbers

natural_is : (v : Value) → is_natural v ≡ true → v ≡ Int (pos (number_in v))
natural_is Null h = none h
natural_is (Int (pos n)) h = refl
natural_is (Int (negsuc n)) h = none h
natural_is (Real x) h = none h
natural_is (Text t) h = none h
natural_is (Blob b) h = none h

number_flag : (n : ℕ) → nat_lt n 2 ≡ true → Int (pos n) ≡ flag (flag_in (Int (pos n)))
number_flag zero h = refl
number_flag (suc zero) h = refl
number_flag (suc (suc n)) h = absurd (let below : suc (suc n) < 2 = ltb-true (suc (suc n)) 2 h in omega (arith, below))

flag_is : (v : Value) → is_value_below 2 v ≡ true → v ≡ flag (flag_in v)
flag_is Null h = none h
flag_is (Int (pos n)) h = number_flag n h
flag_is (Int (negsuc n)) h = none h
flag_is (Real x) h = none h
flag_is (Text t) h = none h
flag_is (Blob b) h = none h

flag_passes : (b : Bool) → is_value_below 2 (flag b) ≡ true
flag_passes true = refl
flag_passes false = refl

-- ---- masks

mask_is : (v : Value) → is_value_below 512 v ≡ true → v ≡ Int (pos (mask_of (set_in v)))
mask_is Null h = none h
mask_is (Int (pos n)) h = ap (λ m. Int (pos m)) (sym (mask_of-leaves_in n (ltb-true n 512 h)))
mask_is (Int (negsuc n)) h = none h
mask_is (Real x) h = none h
mask_is (Text t) h = none h
mask_is (Blob b) h = none h

at_most : (b : Bool) (n : ℕ) → cond b n 0 ≤ n
at_most true n = omega arith
at_most false n = omega arith

mask_passes : (f : Leaf → Bool) → is_value_below 512 (Int (pos (mask_of f))) ≡ true
mask_passes f =
    let a = at_most (f ReadTexts) 1 in
    let b = at_most (f WriteContent) 2 in
    let c = at_most (f WriteProperties) 4 in
    let d = at_most (f Bind) 8 in
    let e = at_most (f Unbind) 16 in
    let g = at_most (f ReadAcl) 32 in
    let h = at_most (f WriteAcl) 64 in
    let k = at_most (f ReadCurrentUserPrivilegeSet) 128 in
    let l = at_most (f ReadNames) 256 in
    lt-ltb (mask_of f) 512 (omega (arith, a, b, c, d, e, g, h, k, l))

-- ---- forms

or_false : (b : Bool) → (b || false) ≡ true → b ≡ true
or_false true h = refl
or_false false h = h

or_right : (a b : Bool) → (a || b) ≡ true → a ≡ false → b ≡ true
or_right false b h e = h
or_right true b h e = absurd (true≢false e)

apart_from_zero : (n : ℕ) → nat_eq (suc n) 0 ≡ false
apart_from_zero n = go (nat_eq (suc n) 0) refl
  where
    go : (b : Bool) → nat_eq (suc n) 0 ≡ b → b ≡ false
    go false e = refl
    go true e = absurd (let is : suc n ≡ 0 = eqb-true (suc n) 0 e in omega (arith, is))

text_is : (v : Value) → is_text v ≡ true → v ≡ Text (unwrap_or (text_in v) [])
text_is Null h = none h
text_is (Int n) h = none h
text_is (Real x) h = none h
text_is (Text t) h = refl
text_is (Blob b) h = none h

null_is : (v : Value) → is_nothing v ≡ true → v ≡ Null
null_is Null h = refl
null_is (Int n) h = none h
null_is (Real x) h = none h
null_is (Text t) h = none h
null_is (Blob b) h = none h

abbrev IsForm : Value → Value → Type 0
IsForm form principal = (form ≡ Int (pos (form_code (who_in form principal)))) × (principal ≡ principal_value (who_in form principal))

number_form : (n : ℕ) (p : Value) → is_form (Int (pos n)) p ≡ true → IsForm (Int (pos n)) p
number_form zero p h = (refl, text_is p (or_false (is_text p) h))
number_form (suc zero) p h = (refl, null_is p h)
number_form (suc (suc zero)) p h = (refl, null_is p h)
number_form (suc (suc (suc zero))) p h = (refl, null_is p h)
number_form (suc (suc (suc (suc zero)))) p h = (refl, null_is p h)
number_form (suc (suc (suc (suc (suc zero))))) p h = (refl, null_is p h)
number_form (suc (suc (suc (suc (suc (suc n)))))) p h =
    absurd (let m = suc (suc (suc (suc (suc (suc n))))) in
    let word = or_right (nat_eq m 0 && is_text p) ((nat_lt 0 m && nat_lt m 6) && is_nothing p) h (ap (λ b. b && is_text p) (apart_from_zero (suc (suc (suc (suc (suc n))))))) in
    let either = and_parts (nat_lt 0 m && nat_lt m 6) (is_nothing p) word in
    let below : m < 6 = ltb-true m 6 (and_parts (nat_lt 0 m) (nat_lt m 6) either.0).1 in
    omega (arith, below))

form_is : (f p : Value) → is_form f p ≡ true → IsForm f p
form_is Null p h = none h
form_is (Int (pos n)) p h = number_form n p h
form_is (Int (negsuc n)) p h = none h
form_is (Real x) p h = none h
form_is (Text t) p h = none h
form_is (Blob b) p h = none h

form_passes : (w : Who) → is_form (Int (pos (form_code w))) (principal_value w) ≡ true
form_passes (Href t) = refl
form_passes Everyone = refl
form_passes Authenticated = refl
form_passes Unauthenticated = refl
form_passes Owner = refl
form_passes Own = refl

-- ---- rows

pub entry_is : (row : Row) → is_entry_row row ≡ true → IsSpelledEntry row
entry_is row h =
    let first = and_parts (is_value_below 2 (column row 1)) (is_natural (column row 2) && is_spelled row) h in
    let second = and_parts (is_natural (column row 2)) (is_spelled row) first.1 in
    let third = and_parts (is_form (column row 3) (column row 4)) (is_value_below 2 (column row 5) && (is_value_below 2 (column row 6) && is_value_below 512 (column row 7))) second.1 in
    let fourth = and_parts (is_value_below 2 (column row 5)) (is_value_below 2 (column row 6) && is_value_below 512 (column row 7)) third.1 in
    let fifth = and_parts (is_value_below 2 (column row 6)) (is_value_below 512 (column row 7)) fourth.1 in
    let form = form_is (column row 3) (column row 4) third.0 in
    let invert = flag_is (column row 5) fourth.0 in
    let deny = flag_is (column row 6) fifth.0 in
    let mask = mask_is (column row 7) fifth.1 in
    record {
      protected = flag_is (shown_protected row) first.0;
      place = natural_is (shown_place row) second.0;
      spelled = λ i. form.0 i ∷ form.1 i ∷ invert i ∷ deny i ∷ mask i ∷ [];
    }

pub entry_passes : (row : Row) → IsSpelledEntry row → is_entry_row row ≡ true
entry_passes row e =
    let part : (n : ℕ) → column (shown_form row ∷ shown_principal row ∷ shown_invert row ∷ shown_deny row ∷ shown_mask row ∷ []) n ≡ column (entry_values (entry_in row)) n = λ n. ap (λ r. column r n) e.spelled in
    let entry = entry_in row in
    let form : is_form (column row 3) (column row 4) ≡ true = (λ i. is_form (part 0 i) (part 1 i)) ∙ form_passes entry.who in
    let invert : is_value_below 2 (column row 5) ≡ true = ap (is_value_below 2) (part 2) ∙ flag_passes entry.invert in
    let deny : is_value_below 2 (column row 6) ≡ true = ap (is_value_below 2) (part 3) ∙ flag_passes entry.deny in
    let mask : is_value_below 512 (column row 7) ≡ true = ap (is_value_below 512) (part 4) ∙ mask_passes entry.set in
    and_from _ _ (ap (is_value_below 2) e.protected ∙ flag_passes (flag_in (column row 1)))
    (and_from _ _ (ap is_natural e.place) (and_from _ _ form (and_from _ _ invert (and_from _ _ deny mask))))
