-- What is written of values, as one list of tokens.
use Rattle.book_wire_json.proofs.Common.{◌≡◌, ℕ, List, [], ◌∷◌, ◌++◌, refl, ap, sym, ◌∙◌, Data, items_of}
use Rattle.std.proofs.lemmas.List.{append_assoc, append-nil}
use Rattle.json.specs.Print.{print}
use Rattle.json.specs.Token.{Token, begin_array, begin_object, end_array, end_object, key}
use Rattle.json.specs.Tree.{items_tokens, members_tokens}
use Rattle.serde_json.specs.Data.{array, object}
use Rattle.serde_json.specs.Written.{items_outline, members_outline, compact_text}
use Rattle.serde_json.proofs.Texts.{print-outline}
use Rattle.book_wire_json.specs.Writing.{added, data_tokens, members_of, told, told_members}

-- what is added stands after what was there
added_after : (old ts : List Token) → added old ts ≡ old ++ ts
added_after old [] = sym (append-nil old)
added_after old (t ∷ ts) = added_after (old ++ t ∷ []) ts ∙ append_assoc old (t ∷ []) ts

-- tokens that are added in two parts are added in one
pub added_append : (old ts us : List Token) → added (added old ts) us ≡ added old (ts ++ us)
added_append old [] us = refl
added_append old (t ∷ ts) us = added_append (old ++ t ∷ []) ts us

pub added_one : (old ts : List Token) (a : Token) → added old ts ++ a ∷ [] ≡ added old (ts ++ a ∷ [])
added_one old ts a = added_append old ts (a ∷ [])

pub added_three : (old ts : List Token) (a b c : Token) → ((added old ts ++ a ∷ []) ++ b ∷ []) ++ c ∷ [] ≡ added old (ts ++ a ∷ b ∷ c ∷ [])
added_three old ts a b c = added_append old ts (a ∷ b ∷ c ∷ [])

-- values that are told and then the end of an array are the tokens of its items
told_items : (old : List Token) (ds : List Data) → told old ds ++ end_array ∷ [] ≡ old ++ items_tokens (items_outline (items_of ds))
told_items old [] = refl
told_items old (d ∷ ds) =
    told_items (added old (data_tokens d)) ds
    ∙ ap (λ s. s ++ items_tokens (items_outline (items_of ds))) (added_after old (data_tokens d))
    ∙ append_assoc old (data_tokens d) (items_tokens (items_outline (items_of ds)))

-- the beginning of an array, values that are told, and its end are the array
pub array_told : (old : List Token) (ds : List Data) → told (old ++ begin_array ∷ []) ds ++ end_array ∷ [] ≡ added old (data_tokens (array (items_of ds)))
array_told old ds =
    told_items (old ++ begin_array ∷ []) ds ∙ sym (added_after (old ++ begin_array ∷ []) (items_tokens (items_outline (items_of ds))))

-- members that are told and then the end of an object are the tokens of its members
told_all_members : (old : List Token) (ms : List (List ℕ × Data)) → told_members old ms ++ end_object ∷ [] ≡ old ++ members_tokens (members_outline (members_of ms))
told_all_members old [] = refl
told_all_members old (m ∷ ms) =
    let rest = members_tokens (members_outline (members_of ms)) in
    told_all_members (added (old ++ key m.0 ∷ []) (data_tokens m.1)) ms
    ∙ ap (λ s. s ++ rest) (added_after (old ++ key m.0 ∷ []) (data_tokens m.1))
    ∙ append_assoc (old ++ key m.0 ∷ []) (data_tokens m.1) rest
    ∙ append_assoc old (key m.0 ∷ []) (data_tokens m.1 ++ rest)

-- the beginning of an object, members that are told, and its end are the object
pub object_told : (old : List Token) (ms : List (List ℕ × Data)) → told_members (old ++ begin_object ∷ []) ms ++ end_object ∷ [] ≡ added old (data_tokens (object (members_of ms)))
object_told old ms =
    told_all_members (old ++ begin_object ∷ []) ms ∙ sym (added_after (old ++ begin_object ∷ []) (members_tokens (members_outline (members_of ms))))

-- members that are told in two parts are told in one
pub members_append : (old : List Token) (ms ns : List (List ℕ × Data)) → told_members (told_members old ms) ns ≡ told_members old (ms ++ ns)
members_append old [] ns = refl
members_append old (m ∷ ms) ns = members_append (added (old ++ key m.0 ∷ []) (data_tokens m.1)) ms ns

-- the text of a value that is told alone
pub value_written : (old : List Token) (d : Data) → old ≡ [] → print (added old (data_tokens d)) ≡ compact_text d
value_written old d h = ap (λ s. print (added s (data_tokens d))) h ∙ ap print (added_after [] (data_tokens d)) ∙ print-outline d

-- members that are told in seven parts are told in one
pub seven_told : (old : List Token) (a b c d e f g : List (List ℕ × Data))
    → told_members (told_members (told_members (told_members (told_members (told_members (told_members old a) b) c) d) e) f) g
    ≡ told_members old (a ++ (b ++ (c ++ (d ++ (e ++ (f ++ (g ++ [])))))))
seven_told old a b c d e f g =
    let one = told_members old a in
    let two = told_members one b in
    let three = told_members two c in
    let four = told_members three d in
    let five = told_members four e in
    members_append five f g
    ∙ members_append four e (f ++ g)
    ∙ members_append three d (e ++ (f ++ g))
    ∙ members_append two c (d ++ (e ++ (f ++ g)))
    ∙ members_append one b (c ++ (d ++ (e ++ (f ++ g))))
    ∙ members_append old a (b ++ (c ++ (d ++ (e ++ (f ++ g)))))
    ∙ ap (λ r. told_members old (a ++ (b ++ (c ++ (d ++ (e ++ (f ++ r))))))) (sym (append-nil g))
