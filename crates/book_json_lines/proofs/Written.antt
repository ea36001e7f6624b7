-- What is written of values, as one list of tokens.
use Rattle.book_json_lines.proofs.Common.{◌≡◌, ℕ, List, [], ◌∷◌, ◌++◌, refl, ap, sym, ◌∙◌, append_assoc, append-nil, codes}
use Rattle.json.specs.Json.{Json, array, object}
use Rattle.json.specs.Print.{print}
use Rattle.json.specs.Token.{Token, begin_array, begin_object, end_array, end_object, key}
use Rattle.json.specs.Tree.{items_tokens, members_tokens, json_tokens}
use Rattle.book_json_lines.specs.Objects.{added, items_of, members_of, text_line, told, told_members}

-- what is added stands after what was there
added_after : (old ts : List Token) → added old ts ≡ old ++ ts
added_after old [] = sym (append-nil old)
added_after old (t ∷ ts) = added_after (old ++ t ∷ []) ts ∙ append_assoc old (t ∷ []) ts

-- values that are told and then the end of an array are the tokens of its items
told_items : (old : List Token) (js : List Json) → told old js ++ end_array ∷ [] ≡ old ++ items_tokens (items_of js)
told_items old [] = refl
told_items old (j ∷ js) =
    told_items (added old (json_tokens j)) js
    ∙ ap (λ s. s ++ items_tokens (items_of js)) (added_after old (json_tokens j))
    ∙ append_assoc old (json_tokens j) (items_tokens (items_of js))

-- the beginning of an array, values that are told, and its end are the array
pub array_told : (old : List Token) (js : List Json) → told (old ++ begin_array ∷ []) js ++ end_array ∷ [] ≡ added old (json_tokens (array (items_of js)))
array_told old js =
    told_items (old ++ begin_array ∷ []) js ∙ sym (added_after (old ++ begin_array ∷ []) (items_tokens (items_of js)))

-- members that are told and then the end of an object are the tokens of its members
told_all_members : (old : List Token) (ms : List (List ℕ × Json)) → told_members old ms ++ end_object ∷ [] ≡ old ++ members_tokens (members_of ms)
told_all_members old [] = refl
told_all_members old (m ∷ ms) =
    let rest = members_tokens (members_of ms) in
    told_all_members (added (old ++ key m.0 ∷ []) (json_tokens m.1)) ms
    ∙ ap (λ s. s ++ rest) (added_after (old ++ key m.0 ∷ []) (json_tokens m.1))
    ∙ append_assoc (old ++ key m.0 ∷ []) (json_tokens m.1) rest
    ∙ append_assoc old (key m.0 ∷ []) (json_tokens m.1 ++ rest)

-- the beginning of an object, members that are told, and its end are the object
pub object_told : (old : List Token) (ms : List (List ℕ × Json)) → told_members (old ++ begin_object ∷ []) ms ++ end_object ∷ [] ≡ added old (json_tokens (object (members_of ms)))
object_told old ms =
    told_all_members (old ++ begin_object ∷ []) ms ∙ sym (added_after (old ++ begin_object ∷ []) (members_tokens (members_of ms)))

-- members that are told in two parts are told in one
pub members_append : (old : List Token) (ms ns : List (List ℕ × Json)) → told_members (told_members old ms) ns ≡ told_members old (ms ++ ns)
members_append old [] ns = refl
members_append old (m ∷ ms) ns = members_append (added (old ++ key m.0 ∷ []) (json_tokens m.1)) ms ns

-- the line of a value that is told alone
pub text_written : (j : Json) → print (added [] (json_tokens j)) ++ codes "\n" ≡ text_line j
text_written j = ap (λ s. print s ++ codes "\n") (added_after [] (json_tokens j))

-- the text of a value that is told alone
pub value_written : (j : Json) → print (added [] (json_tokens j)) ≡ print (json_tokens j)
value_written j = ap print (added_after [] (json_tokens j))

-- members that are told in four parts are told in one
pub four_told : (old : List Token) (a b c d : List (List ℕ × Json))
    → told_members (told_members (told_members (told_members old a) b) c) d ≡ told_members old (a ++ (b ++ (c ++ d)))
four_told old a b c d =
    let one = told_members old a in
    let two = told_members one b in
    members_append two c d ∙ members_append one b (c ++ d) ∙ members_append old a (b ++ (c ++ d))

-- and so are those that are told in five
pub five_told : (old : List Token) (a b c d e : List (List ℕ × Json))
    → told_members (told_members (told_members (told_members (told_members old a) b) c) d) e ≡ told_members old (a ++ (b ++ (c ++ (d ++ e))))
five_told old a b c d e =
    let one = told_members old a in
    four_told one b c d e ∙ members_append old a (b ++ (c ++ (d ++ e)))
