-- The members of a group's object as text.
use Rattle.book_log_denials.proofs.Common.{◌≡◌, ℕ, List, [], ◌∷◌, ◌++◌, Bool, true, false, refl, sym, ap, ◌∙◌, append_assoc, append-nil, Option, Some, None}
use Rattle.std.proofs.Common.{codes, fold}
use Rattle.json.proofs.Printed.Tokens.{ends_push, print_from-append}
use Rattle.json.specs.Json.{Json}
use Rattle.json.specs.Print.{begins, ends, print, print_from, separator, token_text}
use Rattle.json.specs.Token.{Token, end_object, key}
use Rattle.json.specs.Tree.{json_tokens, members_tokens}
use Rattle.book_json_lines.specs.Objects.{added, members_of, told_members}

-- what is added stands after what was there
pub added_after : (old ts : List Token) → added old ts ≡ old ++ ts
added_after old [] = sym (append-nil old)
added_after old (t ∷ ts) = added_after (old ++ t ∷ []) ts ∙ append_assoc old (t ∷ []) ts

-- members that are told, and then the end of an object
pub told_to_end : (old : List Token) (ms : List (List ℕ × Json)) → told_members old ms ++ end_object ∷ [] ≡ old ++ members_tokens (members_of ms)
told_to_end old [] = refl
told_to_end old (m ∷ ms) =
    let rest = members_tokens (members_of ms) in
    told_to_end (added (old ++ key m.0 ∷ []) (json_tokens m.1)) ms
    ∙ ap (λ s. s ++ rest) (added_after (old ++ key m.0 ∷ []) (json_tokens m.1))
    ∙ append_assoc (old ++ key m.0 ∷ []) (json_tokens m.1) rest
    ∙ append_assoc old (key m.0 ∷ []) (json_tokens m.1 ++ rest)

-- a brace has no comma before it
brace : (c : Bool) → print_from c (end_object ∷ []) ≡ codes "}"
unfolding print_from
brace true = refl
brace false = refl

-- a value behind its key, and the end of the object
pub value_to_end : (old : List Token) (k : List ℕ) (j : Json)
    → print (old ++ key k ∷ []) ++ (print (json_tokens j) ++ codes "}") ≡ print (added (old ++ key k ∷ []) (json_tokens j) ++ end_object ∷ [])
value_to_end old k j =
    let front = old ++ key k ∷ [] in
    let value = json_tokens j in
    let last = end_object ∷ [] in
    let after : fold (λ _ u. ends u) false front ≡ false = ends_push false old (key k) in
    let whole : print (value ++ last) ≡ print value ++ codes "}" = print_from-append false value last ∙ ap (λ t. print value ++ t) (brace (fold (λ _ u. ends u) false value)) in
    ap (λ t. print front ++ t) (sym whole)
    ∙ ap (λ c. print front ++ print_from c (value ++ last)) (sym after)
    ∙ sym (print_from-append false front (value ++ last))
    ∙ ap print (sym (append_assoc front value last) ∙ ap (λ s. s ++ last) (sym (added_after front value)))

-- members that are told in two parts are told in one
pub members_append : (old : List Token) (ms ns : List (List ℕ × Json)) → told_members (told_members old ms) ns ≡ told_members old (ms ++ ns)
members_append old [] ns = refl
members_append old (m ∷ ms) ns = members_append (added (old ++ key m.0 ∷ []) (json_tokens m.1)) ms ns
