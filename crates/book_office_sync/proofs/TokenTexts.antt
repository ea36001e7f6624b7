-- Texts of numbers and of tokens.
use Rattle.book_office_sync.proofs.Common.{◌≡◌, ℕ, ◌<◌, ◌≤◌, ◌&&◌, ◌==◌, zero, suc, Bool, true, false, List, [], ◌∷◌, ◌++◌, length, drop, refl, sym, ap, ◌∙◌, subst, arith, nat_lt, Option, Some, None, nat_tests, Token}
use Rattle.std.proofs.Common.{◌≢◌, ◌^◌, ◌||◌, get_or, slice_index, codes, Result, Ok, Err, OkIff, IfSome, IsSomeAnd}
use Rattle.std.specs.Prelude.{decimal}
use Rattle.std.specs.Str.Parse.{AllDigits, digits_value, ParsesUnsigned}
use Rattle.std.proofs.lemmas.List.{append_assoc}
use Rattle.std.proofs.lemmas.Fmt.{decimal_is_IsNumeral, decimal_nonempty, first_decimal, decimal_digit, decimal_injective, decimal-digits_value}
use Rattle.std.proofs.lemmas.Str.Parse.{IsNumeralModel, numerals_by_value, tells_digits, digit_at, parse_plain}
use Rattle.std.specs.Option.{MatchOption}
use Rattle.book_office_values.proofs.Slashes.{no_slash}
use Rattle.book_office_sync.specs.Tokens.{IsToken, token_text}
use Rattle.book_limits.specs.declared.TheConstants.{LAST_NUMBER}

-- a text begins with a plus, or with a zero before anything else
abbrev pub surplus : List ℕ → Bool
surplus bs = slice_index bs 0 == 43 || (nat_lt 1 (length bs) && slice_index bs 0 == 48)

numerals : IsNumeralModel (AllDigits 10) (digits_value 10)
numerals = numerals_by_value (AllDigits 10) tells_digits

pub short : (n : ℕ) → n ≤ LAST_NUMBER → n < 2 ^ 64
short n few = omega (arith, few)

first_digit : (n : ℕ) → n < 2 ^ 64 → 48 ≤ get_or (decimal n) 0 0
first_digit n few = (digit_at (decimal n) 0 (decimal_is_IsNumeral n few).0.1 (decimal_nonempty n few)).0

one_zero : (n : ℕ) → n < 2 ^ 64 → get_or (decimal n) 0 0 ≡ 48 → length (decimal n) ≡ 1
one_zero zero few e = ap length (decimal_digit 0 (omega arith))
one_zero (suc n) few e = absurd (omega (arith, e, first_decimal (suc n) (omega arith) few))

-- the text of a number has no surplus
pub none_surplus : (bs : List ℕ) (n : ℕ) → n ≤ LAST_NUMBER → bs ≡ decimal n → surplus bs ≡ true → ⊥
none_surplus bs n few e s =
    let low : 48 ≤ get_or bs 0 0 = subst (λ t. 48 ≤ get_or t 0 0) (sym e) (first_digit n (short n few)) in
    let one : get_or bs 0 0 ≡ 48 → length bs ≡ 1 = subst (λ t. get_or t 0 0 ≡ 48 → length t ≡ 1) (sym e) (one_zero n (short n few)) in
    at (get_or bs 0 0) (length bs) low one s
  where
    at : (first size : ℕ) → 48 ≤ first → (first ≡ 48 → size ≡ 1) → first == 43 || (nat_lt 1 size && first == 48) ≡ true → ⊥
    at first size low one s = grind (arith, nat_tests)

-- a text that is read as a number, and has no surplus, is the number's
pub is_decimal : {E : Type 0} (bs : List ℕ) (n : ℕ) (r : Result ℕ E) → ParsesUnsigned 64 10 bs r → r ≡ Ok n → surplus bs ≡ false → bs ≡ decimal n
is_decimal {E = E} bs n r h e s = at r e (parse_plain numerals 64 bs r h (plain bs s))
  where
    plain : (bs : List ℕ) → surplus bs ≡ false → get_or bs 0 0 ≢ 43
    plain bs s e = test (get_or bs 0 0) (length bs) s e
      where
        test : (first size : ℕ) → first == 43 || (nat_lt 1 size && first == 48) ≡ false → first ≡ 43 → ⊥
        test first size s e = grind (arith, nat_tests)

    lone : (bs : List ℕ) → surplus bs ≡ false → 0 < length bs → get_or bs 0 0 ≡ 48 → length bs ≡ 1
    lone bs s some e = test (get_or bs 0 0) (length bs) s some e
      where
        test : (first size : ℕ) → first == 43 || (nat_lt 1 size && first == 48) ≡ false → 0 < size → first ≡ 48 → size ≡ 1
        test first size s some e = grind (arith, nat_tests)

    at : (r : Result ℕ E) → r ≡ Ok n → OkIff r (AllDigits 10 bs × (0 < length bs) × (digits_value 10 bs < 2 ^ 64)) (digits_value 10 bs) → bs ≡ decimal n
    at (Ok m) e h =
        let same : m ≡ n = cc in
        sym (decimal-digits_value numerals bs h.0.0 h.0.1 (lone bs s h.0.1) h.0.2) ∙ ap decimal (sym h.1 ∙ same)
    at (Err f) e h = absurd cc

-- a text is read as at most one number
pub apart : {A E : Type 0} (r : Result A E) (m : A) (e : E) → r ≡ Ok m → r ≡ Err e → ⊥
apart r m e is other = absurd cc

-- an Ok has one value
pub same_ok : {A E : Type 0} (r : Result A E) (m n : A) → r ≡ Ok m → r ≡ Ok n → m ≡ n
same_ok r m n is other = cc

-- the text of a token, part by part
pub grouped : (book epoch number : List ℕ) → book ++ codes "/" ++ epoch ++ codes "/" ++ number ≡ book ++ 47 ∷ (epoch ++ 47 ∷ number)
grouped book epoch number =
    append_assoc (book ++ codes "/" ++ epoch) (codes "/") number ∙ append_assoc (book ++ codes "/") epoch (47 ∷ number) ∙ append_assoc book (codes "/") (epoch ++ 47 ∷ number)

-- neither a name nor the text of a number has a slash
pub number_no_slash : (n : ℕ) → n ≤ LAST_NUMBER → (i : ℕ) → i < length (decimal n) → get_or (decimal n) i 0 ≢ 47
number_no_slash n few i within e =
    let low = (digit_at (decimal n) i (decimal_is_IsNumeral n (short n few)).0.1 within).0 in omega (arith, e, low)

pub some_and : {A : Type 0} (P : A → Type 0) (r : Option A) → MatchOption r ⊥ P → IsSomeAnd r P
some_and P None h = h
some_and P (Some x) h = h

pub if_some : {A : Type 0} (N : Type 0) (P Q : A → Type 0) (r : Option A) → MatchOption r N (λ x. P x × Q x) → IfSome r P
if_some N P Q None h = tt
if_some N P Q (Some x) h = h.0

-- what follows the scheme in the text of a token
abbrev pub after_scheme : Token → List ℕ
after_scheme token = token.book ++ 47 ∷ (decimal token.epoch ++ 47 ∷ decimal token.number)

pub text_parts : (text rest : List ℕ) (token : Token) → text ≡ codes "data:," ++ rest → text ≡ token_text token → rest ≡ after_scheme token
text_parts text rest token e is = ap (drop 6) (sym e ∙ is) ∙ grouped token.book (decimal token.epoch) (decimal token.number)

pub text_of_parts : (text rest numbers book epoch number : List ℕ) → text ≡ codes "data:," ++ rest → rest ≡ book ++ 47 ∷ numbers → numbers ≡ epoch ++ 47 ∷ number
    → text ≡ codes "data:," ++ (book ++ codes "/" ++ epoch ++ codes "/" ++ number)
text_of_parts text rest numbers book epoch number e f g =
    e ∙ ap (λ r. codes "data:," ++ r) (f ∙ ap (λ r. book ++ 47 ∷ r) g ∙ sym (grouped book epoch number))

-- the first slash of a text ends its first part
same_parts : (front back other_front other_back : List ℕ) → ((i : ℕ) → i < length front → get_or front i 0 ≢ 47) → ((i : ℕ) → i < length other_front → get_or other_front i 0 ≢ 47)
    → front ++ 47 ∷ back ≡ other_front ++ 47 ∷ other_back → (front ≡ other_front) × (back ≡ other_back)
same_parts [] back [] other_back free other_free e = (refl, ap (drop 1) e)
same_parts [] back (x ∷ xs) other_back free other_free e = absurd (other_free 0 (omega arith) (sym (ap (λ t. get_or t 0 0) e)))
same_parts (x ∷ xs) back [] other_back free other_free e = absurd (free 0 (omega arith) (ap (λ t. get_or t 0 0) e))
same_parts (x ∷ xs) back (y ∷ ys) other_back free other_free e =
    let head : x ≡ y = ap (λ t. get_or t 0 0) e in
    let rest = same_parts xs back ys other_back (λ i within. free (suc i) (omega (arith, within))) (λ i within. other_free (suc i) (omega (arith, within))) (ap (drop 1) e) in
    (λ i. head i ∷ rest.0 i, rest.1)

-- different tokens have different texts
pub one_token : (s t : Token) → IsToken s → IsToken t → token_text s ≡ token_text t → s ≡ t
one_token s t is other e =
    let rest : after_scheme s ≡ after_scheme t =
    sym (grouped s.book (decimal s.epoch) (decimal s.number)) ∙ ap (drop 6) e ∙ grouped t.book (decimal t.epoch) (decimal t.number) in
    let book = same_parts s.book (decimal s.epoch ++ 47 ∷ decimal s.number) t.book (decimal t.epoch ++ 47 ∷ decimal t.number) (no_slash s.book is.book) (no_slash t.book other.book) rest in
    let epoch = same_parts (decimal s.epoch) (decimal s.number) (decimal t.epoch) (decimal t.number) (number_no_slash s.epoch is.epoch) (number_no_slash t.epoch other.epoch) book.1 in
    let epochs = decimal_injective s.epoch t.epoch (short s.epoch is.epoch) (short t.epoch other.epoch) epoch.0 in
    let numbers = decimal_injective s.number t.number (short s.number is.number) (short t.number other.number) epoch.1 in
    λ i. record { book = book.0 i; epoch = epochs i; number = numbers i }
