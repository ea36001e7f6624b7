-- The line of a group as an object is the text of a JSON object.
use Rattle.book_log_denials.proofs.Common.{◌≡◌, ℕ, List, [], ◌∷◌, ◌++◌, refl, sym, ap, subst, ◌∙◌, arith, append_assoc, length, Option, Some, None, true, false, Tally}
use Rattle.std.proofs.Common.{◌≤◌, ◌<◌, codes, decimal, get_or, IsTrue, cond, nat_eq, nat_lt, nat_le}
use Rattle.std.specs.List.{All}
use Rattle.std.specs.List.{AllByRecursion}
use Rattle.std.proofs.lemmas.Bool.Decides.{nat_tests}
use Rattle.std.proofs.lemmas.List.Elements.{All-from_get_or, All-from_recursion, recursion_from_All}
use Rattle.json.specs.Json.{Json}
use Rattle.json.specs.Print.{escape, escape_byte, escape_letter, print, print_from, quoted}
use Rattle.json.specs.Token.{Token, begin_object, key, number, string}
use Rattle.json.specs.Tree.{members_tokens}
use Rattle.book_json_lines.specs.Objects.{members_of}
use Rattle.book_log_lines.specs.Lines.{path_json, privilege_json}
use Rattle.book_log_lines.specs.Times.{IsTime, fits, time_form}
use Rattle.book_log_lines.specs.declared.lines.Denied.{Denied}
use Rattle.book_log_lines.specs.declared.lines.ReplyLine.{ReplyLine}
use Rattle.book_log_denials.specs.Denials.{by_members, caller_members, group_members, group_text}
use Rattle.book_log_denials.specs.Laws.{ObjectsAreJson}
use Rattle.book_log_denials.specs.declared.forms.Form.TheVariants as form

-- ---- what stands in a string as it is
-- neither a quote, a backslash nor a control character
abbrev IsPlain : ℕ → Type 0
IsPlain b = (45 ≤ b) × (b ≤ 90)

plain_byte : (b : ℕ) → IsPlain b → escape_byte b ≡ b ∷ []
unfolding escape_byte
plain_byte b h =
    let low : 45 ≤ b = h.0 in
    let high : b ≤ 90 = h.1 in
    let none : nat_lt 0 (escape_letter b) ≡ false = grind (arith, nat_tests, low, high) in
    let shown : nat_lt b 32 ≡ false = grind (arith, nat_tests, low) in
    rw none (rw shown refl)

plain_all : (xs : List ℕ) → AllByRecursion IsPlain xs → escape xs ≡ xs
plain_all [] h = refl
plain_all (x ∷ xs) h = ap (λ f. f ++ escape xs) (plain_byte x h.0) ∙ ap (λ t. x ∷ t) (plain_all xs h.1)

digit : IsPlain 48
digit = (omega arith, omega arith)

hyphen : IsPlain 45
hyphen = (omega arith, omega arith)

colon : IsPlain 58
colon = (omega arith, omega arith)

dot : IsPlain 46
dot = (omega arith, omega arith)

letter_t : IsPlain 84
letter_t = (omega arith, omega arith)

letter_z : IsPlain 90
letter_z = (omega arith, omega arith)

form_is_plain : AllByRecursion IsPlain time_form
form_is_plain =
    (digit, (digit, (digit, (digit, (hyphen, (digit, (digit, (hyphen, (digit, (digit, (letter_t, (digit, (digit, (colon, (digit, (digit, (colon, (digit, (digit, (dot, (digit, (digit, (digit, (letter_z, tt))))))))))))))))))))))))

fits_plain : (f b : ℕ) → IsPlain f → IsTrue (fits f b) → IsPlain b
fits_plain f b p h =
    let low : 45 ≤ f = p.0 in
    let high : f ≤ 90 = p.1 in
    (grind (arith, nat_tests, low, high, h), grind (arith, nat_tests, low, high, h))

time_is_plain : (t : List ℕ) → IsTime t → escape t ≡ t
time_is_plain t is =
    plain_all t (recursion_from_All IsPlain t (All-from_get_or IsPlain t 0 (λ i within.
    let inside : i < length time_form = subst (λ n. i < n) is.long within in
    fits_plain (get_or time_form i 0) (get_or t i 0) (All-from_recursion IsPlain time_form form_is_plain i 0 inside) (is.each i inside))))

quoted_time : (t rest : List ℕ) → IsTime t → quoted t ++ rest ≡ 34 ∷ (t ++ 34 ∷ rest)
quoted_time t rest is = ap (λ e. 34 ∷ ((e ++ 34 ∷ []) ++ rest)) (time_is_plain t is) ∙ ap (λ e. 34 ∷ e) (append_assoc t (34 ∷ []) rest)

-- ---- the text of the object
-- a comma stands before a member that follows a value
comma : (xs : List (List ℕ × Json)) (m : List ℕ × Json) (ys : List (List ℕ × Json))
    → print_from true (members_tokens (members_of (xs ++ m ∷ ys))) ≡ 44 ∷ print (members_tokens (members_of (xs ++ m ∷ ys)))
unfolding print_from
comma [] m ys = refl
comma (x ∷ xs) m ys = refl

front : (n f l : List ℕ) (ts : List Token)
    → print (begin_object ∷ key (codes "count") ∷ number n ∷ key (codes "first") ∷ string f ∷ key (codes "last") ∷ string l ∷ ts)
    ≡ codes "{\"count\":" ++ (n ++ (codes ",\"first\":" ++ (quoted f ++ (codes ",\"last\":" ++ (quoted l ++ print_from true ts)))))
unfolding print_from escape_byte
front n f l ts = refl

-- the same with times, whose line ends
module _ (n f l k : List ℕ) (is_first : IsTime f) (is_last : IsTime l) where
  abbrev span : List ℕ
  span = codes ",\"first\":\"" ++ (f ++ (codes "\",\"last\":\"" ++ (l ++ codes "\",")))

  abbrev last_part : List ℕ
  last_part = codes ",\"last\":\"" ++ (l ++ 34 ∷ 44 ∷ k)

  -- what follows the number
  spanned : codes ",\"first\":" ++ (quoted f ++ (codes ",\"last\":" ++ (quoted l ++ 44 ∷ k))) ≡ span ++ k
  spanned =
      ap (λ t. codes ",\"first\":" ++ (quoted f ++ (codes ",\"last\":" ++ t))) (quoted_time l (44 ∷ k) is_last)
      ∙ ap (λ t. codes ",\"first\":" ++ t) (quoted_time f last_part is_first)
      ∙ ap (λ t. codes ",\"first\":\"" ++ (f ++ (codes "\",\"last\":\"" ++ t))) (sym (append_assoc l (codes "\",") k))
      ∙ ap (λ t. codes ",\"first\":\"" ++ t) (sym (append_assoc f (codes "\",\"last\":\"" ++ (l ++ codes "\",")) k))

  pub told : (codes "{\"count\":" ++ (n ++ (codes ",\"first\":" ++ (quoted f ++ (codes ",\"last\":" ++ (quoted l ++ 44 ∷ k)))))) ++ codes "\n"
      ≡ codes "{\"count\":" ++ (n ++ (span ++ (k ++ codes "\n")))
  told =
      ap (λ t. (codes "{\"count\":" ++ (n ++ t)) ++ codes "\n") spanned
      ∙ ap (λ t. codes "{\"count\":" ++ t) (append_assoc n (span ++ k) (codes "\n") ∙ ap (λ t. n ++ t) (append_assoc span k (codes "\n")))

pub objects_are_json : ObjectsAreJson
objects_are_json l d y is_first is_last =
    let ms = group_members l d in
    let k = group_text form.Object l d in
    let n = decimal y.count in
    let rest = (codes "privilege", privilege_json d.privilege) ∷ by_members d.by in
    sym (
    ap (λ t. t ++ codes "\n")
    (front n y.first y.last (members_tokens (members_of ms))
    ∙ ap (λ t. codes "{\"count\":" ++ (n ++ (codes ",\"first\":" ++ (quoted y.first ++ (codes ",\"last\":" ++ (quoted y.last ++ t))))))
    (comma (caller_members l) (codes "resource", path_json d.resource) rest))
    ∙ told n y.first y.last k is_first is_last)
