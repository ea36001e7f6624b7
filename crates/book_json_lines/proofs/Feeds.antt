-- Lines of text, each of which ends with the one line feed that it has.
use Rattle.book_json_lines.proofs.Common.{◌≡◌, ◌≢◌, ℕ, ◌+◌, List, [], ◌∷◌, ◌++◌, refl, sym, ap, ◌∙◌, subst, arith, append_assoc}
use Rattle.std.proofs.Common.{◌<◌, ◌^◌, ◌/◌, ◌%◌, Bool, true, false, cond, ◌&&◌, nat_lt, decimal}
use Rattle.std.specs.Char.{digit_char}
use Rattle.std.proofs.lemmas.Bool.Decides.{nat_tests}
use Rattle.std.proofs.lemmas.Fmt.{decimal_by_steps}
use Rattle.json.specs.Json.{Json, null, boolean, number, string, array, object, Items, no_items, item, Members, no_members, member}
use Rattle.json.specs.Print.{escape, escape_byte, escape_letter, quoted, token_text, begins, ends, separator, print_from, print}
use Rattle.json.specs.Token.{Token}
use Rattle.json.specs.Token as token
use Rattle.json.specs.Tree.{json_tokens, items_tokens, members_tokens}
use Rattle.book_json_lines.specs.Laws.{ValuesAreLines}
use Rattle.book_json_lines.specs.Lines.{HasNumerals, IsNumeral, ItemsHaveNumerals, MembersHaveNumerals, NoFeed}

no_feed_both : (xs ys : List ℕ) → NoFeed xs → NoFeed ys → NoFeed (xs ++ ys)
no_feed_both [] ys a b = b
no_feed_both (x ∷ xs) ys a b = (a.0, no_feed_both xs ys a.1 b)

-- ---- what is written in a string
digit_apart : (d : ℕ) → digit_char d ≢ 10
digit_apart d e = absurd (grind (arith, nat_tests, e))

letter_apart : (x : ℕ) → escape_letter x ≢ 10
letter_apart x e = absurd (grind (arith, nat_tests, e))

escaped : (x : ℕ) → NoFeed (escape_byte x)
unfolding escape_byte
escaped x =
    elim (nat_lt 0 (escape_letter x)) as (λ b. nat_lt 0 (escape_letter x) ≡ b → NoFeed (cond b (92 ∷ escape_letter x ∷ []) (cond (nat_lt x 32) (92 ∷ 117 ∷ 48 ∷ 48 ∷ digit_char (x / 16) ∷ digit_char (x % 16) ∷ []) (x ∷ [])))) [
      | true ↦ λ _. (λ e. cc, (letter_apart x, tt))
      | false ↦ λ _. elim (nat_lt x 32) as (λ b. nat_lt x 32 ≡ b → NoFeed (cond b (92 ∷ 117 ∷ 48 ∷ 48 ∷ digit_char (x / 16) ∷ digit_char (x % 16) ∷ []) (x ∷ []))) [
        | true ↦ λ _. (λ e. cc, (λ e. cc, (λ e. cc, (λ e. cc, (digit_apart (x / 16), (digit_apart (x % 16), tt))))))
        | false ↦ λ high. (λ e. absurd (grind (arith, nat_tests, high, e)), tt)
      ] refl
    ] refl

escaped_all : (s : List ℕ) → NoFeed (escape s)
escaped_all [] = tt
escaped_all (x ∷ s) = no_feed_both (escape_byte x) (escape s) (escaped x) (escaped_all s)

quoted_one : (s : List ℕ) → NoFeed (quoted s)
quoted_one s = (λ e. cc, no_feed_both (escape s) (34 ∷ []) (escaped_all s) (λ e. cc, tt))

digits_apart : (n : ℕ) → n < 2 ^ 64 → NoFeed (decimal n)
digits_apart n few =
    decimal_by_steps (λ _ ds. NoFeed ds)
    (λ n small. (λ e. absurd (omega (arith, e)), tt))
    (λ n ds large h. no_feed_both ds ((48 + n % 10) ∷ []) h (λ e. absurd (omega (arith, e)), tt)) n few

-- the numbers among tokens are numerals
abbrev IsPlain : Token → Type 0
IsPlain token.begin_object = Unit {0}
IsPlain token.end_object = Unit {0}
IsPlain token.begin_array = Unit {0}
IsPlain token.end_array = Unit {0}
IsPlain (token.key s) = Unit {0}
IsPlain (token.string s) = Unit {0}
IsPlain (token.number s) = IsNumeral s
IsPlain (token.boolean b) = Unit {0}
IsPlain token.null = Unit {0}
IsPlain token.bad = Unit {0}

abbrev ArePlain : List Token → Type 0
ArePlain [] = Unit {0}
ArePlain (t ∷ ts) = IsPlain t × ArePlain ts

plain_both : (ts us : List Token) → ArePlain ts → ArePlain us → ArePlain (ts ++ us)
plain_both [] us a b = b
plain_both (t ∷ ts) us a b = (a.0, plain_both ts us a.1 b)

mutual
  plain_of : (j : Json) → HasNumerals j → ArePlain (json_tokens j)
  plain_of null h = (tt, tt)
  plain_of (boolean b) h = (tt, tt)
  plain_of (number s) h = (h, tt)
  plain_of (string s) h = (tt, tt)
  plain_of (array js) h = (tt, plain_items js h)
  plain_of (object ms) h = (tt, plain_members ms h)

  plain_items : (js : Items) → ItemsHaveNumerals js → ArePlain (items_tokens js)
  plain_items no_items h = (tt, tt)
  plain_items (item j js) h = plain_both (json_tokens j) (items_tokens js) (plain_of j h.0) (plain_items js h.1)

  plain_members : (ms : Members) → MembersHaveNumerals ms → ArePlain (members_tokens ms)
  plain_members no_members h = (tt, tt)
  plain_members (member k j ms) h = (tt, plain_both (json_tokens j) (members_tokens ms) (plain_of j h.0) (plain_members ms h.1))

token_apart : (t : Token) → IsPlain t → NoFeed (token_text t)
token_apart token.begin_object h = (λ e. cc, tt)
token_apart token.end_object h = (λ e. cc, tt)
token_apart token.begin_array h = (λ e. cc, tt)
token_apart token.end_array h = (λ e. cc, tt)
token_apart (token.key s) h = no_feed_both (quoted s) (58 ∷ []) (quoted_one s) (λ e. cc, tt)
token_apart (token.string s) h = quoted_one s
token_apart (token.number s) h = subst NoFeed (sym h.2) (digits_apart h.0 h.1)
token_apart (token.boolean true) h = (λ e. cc, (λ e. cc, (λ e. cc, (λ e. cc, tt))))
token_apart (token.boolean false) h = (λ e. cc, (λ e. cc, (λ e. cc, (λ e. cc, (λ e. cc, tt)))))
token_apart token.null h = (λ e. cc, (λ e. cc, (λ e. cc, (λ e. cc, tt))))
token_apart token.bad h = tt

comma_apart : (b : Bool) → NoFeed (cond b (44 ∷ []) [])
comma_apart true = (λ e. cc, tt)
comma_apart false = tt

printed_apart : (later : Bool) (ts : List Token) → ArePlain ts → NoFeed (print_from later ts)
unfolding print_from
printed_apart later [] h = tt
printed_apart later (t ∷ ts) h =
    no_feed_both (separator later t) (token_text t ++ print_from (ends t) ts) (comma_apart (later && begins t))
    (no_feed_both (token_text t) (print_from (ends t) ts) (token_apart t h.0) (printed_apart (ends t) ts h.1))

-- ---- lines
-- a value is a line
pub value_line : ValuesAreLines
value_line j h = (print (json_tokens j), printed_apart false (json_tokens j) (plain_of j h), refl)
