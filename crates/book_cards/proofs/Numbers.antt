-- Each line of a card, up to its end, has fields.
use Rattle.book_cards.proofs.Common.{◌≡◌, ℕ, zero, suc, ◌<◌, Bool, true, false, Option, Some, None, List, [], ◌∷◌, ◌++◌, length, take, drop, refl, ap, sym, ◌∙◌, subst, arith, append_assoc, length-append, codes, eqb, option_map, option_and_then, slice_get, AllByRecursion, str_eq_ignore_ascii_case, lines, Fields, is_name_byte, fields_of, is_end, lines_fault, fields_in}
use Rattle.std.proofs.Common.{map, take-append-drop, append-nil}
use Rattle.std.specs.Option.{IsSome}
use Rattle.std.specs.List.{filter_map, cons_option}
use Rattle.std.proofs.lemmas.List.Elements.{filter_map-append}
use Rattle.std.specs.Char.{to_ascii_lowercase}
use Rattle.std.specs.Str.{bytes_eq, str_to_ascii_lowercase}
use Rattle.std.proofs.lemmas.Bool.{and_parts}
use Rattle.book_cards.specs.CardText.{up_to_end, card_lines}
use Rattle.book_cards.specs.Valid.{IsContent, AreCardLines}
use Rattle.book_cards.proofs.Folds.{eqb_is}
use Rattle.book_cards.proofs.Scans.{up_to_end_at, up_to_end_later}
use Rattle.book_cards.proofs.ValidLaws.{lines_sound}
use Rattle.book_cards.proofs.Grammar.{AllNames, params_nil, fields_complete}

lowered : (w : ℕ) → is_name_byte w ≡ true → is_name_byte (to_ascii_lowercase w) ≡ true
lowered w h = grind arith

raised : (a : ℕ) → is_name_byte (to_ascii_lowercase a) ≡ true → is_name_byte a ≡ true
raised a h = grind arith

-- a byte that is a name byte but for its case
same_byte : (a w : ℕ) → eqb (to_ascii_lowercase a) (to_ascii_lowercase w) ≡ true → is_name_byte w ≡ true → is_name_byte a ≡ true
same_byte a w e h = raised a (ap is_name_byte (eqb_is (to_ascii_lowercase a) (to_ascii_lowercase w) e) ∙ lowered w h)

is_colon : (a : ℕ) → eqb (to_ascii_lowercase a) (to_ascii_lowercase 58) ≡ true → a ≡ 58
is_colon a e = grind arith

-- a text that is a word and a colon, but for the case
pub word_and_colon : (text word more : List ℕ) → AllNames word → str_eq_ignore_ascii_case text (word ++ 58 ∷ more) ≡ true
    → (name rest : List ℕ) × AllNames name × (length name ≡ length word) × (text ≡ name ++ 58 ∷ rest)
word_and_colon [] [] more all e = cc
word_and_colon [] (w ∷ word) more all e = cc
word_and_colon (a ∷ text) [] more all e =
    let parts = and_parts (eqb (to_ascii_lowercase a) (to_ascii_lowercase 58)) (bytes_eq (str_to_ascii_lowercase text) (str_to_ascii_lowercase more)) e in
    ([], text, tt, refl, ap (λ c. c ∷ text) (is_colon a parts.0))
word_and_colon (a ∷ text) (w ∷ word) more all e =
    let parts = and_parts (eqb (to_ascii_lowercase a) (to_ascii_lowercase w)) (bytes_eq (str_to_ascii_lowercase text) (str_to_ascii_lowercase (word ++ 58 ∷ more))) e in
    let rest = word_and_colon text word more all.1 parts.1 in
    (a ∷ rest.0, rest.1, (same_byte a w parts.0 all.0, rest.2), ap (λ (n : ℕ). suc n) rest.3, ap (λ t. a ∷ t) rest.4)

HasFields : List ℕ → Type 0
HasFields line = (f : Fields) × (fields_of line ≡ Some f)

named : (line name rest : List ℕ) → AllNames name → 0 < length name → line ≡ name ++ 58 ∷ rest → HasFields line
unfolding HasFields
named line name rest all some spelled =
    let f : Fields = record { group = None; name = name; params = []; value = rest } in
    (f, fields_complete line f (record { group = tt; name = (some, all); params = params_nil; spelled = spelled }))

card_begins : (line : List ℕ) → str_eq_ignore_ascii_case line (codes "BEGIN:VCARD") ≡ true → HasFields line
card_begins line e =
    let parts = word_and_colon line (codes "BEGIN") (codes "VCARD") (refl, (refl, (refl, (refl, (refl, tt))))) e in
    named line parts.0 parts.1 parts.2 (omega (arith, parts.3)) parts.4

card_ends : (line : List ℕ) → str_eq_ignore_ascii_case line (codes "END:VCARD") ≡ true → HasFields line
card_ends line e =
    let parts = word_and_colon line (codes "END") (codes "VCARD") (refl, (refl, (refl, tt))) e in
    named line parts.0 parts.1 parts.2 (omega (arith, parts.3)) parts.4

card_version : (line : List ℕ) → str_eq_ignore_ascii_case (take 8 line) (codes "VERSION:") ≡ true → HasFields line
card_version line e =
    let parts = word_and_colon (take 8 line) (codes "VERSION") [] (refl, (refl, (refl, (refl, (refl, (refl, (refl, tt))))))) e in
    named line parts.0 (parts.1 ++ drop 8 line) parts.2 (omega (arith, parts.3))
    (sym (take-append-drop 8 line) ∙ ap (λ t. t ++ drop 8 line) parts.4 ∙ append_assoc parts.0 (58 ∷ parts.1) (drop 8 line))

content_has : (content : List (List ℕ)) → AllByRecursion IsContent content → AllByRecursion HasFields content
unfolding HasFields
content_has [] all = tt
content_has (line ∷ content) all = ((all.0.fields, fields_complete line all.0.fields all.0.grammar), content_has content all.1)

no_fields : (blanks : List (List ℕ)) → AllByRecursion (λ line. line ≡ []) blanks → filter_map fields_of blanks ≡ []
no_fields [] all = refl
no_fields (line ∷ blanks) all = ap (λ (l : List ℕ). cons_option (fields_of l) (filter_map fields_of blanks)) all.0 ∙ no_fields blanks all.1

all_fields : (front : List (List ℕ)) → AllByRecursion HasFields front → map fields_of front ≡ map Some (filter_map fields_of front)
unfolding HasFields
all_fields [] all = refl
all_fields (line ∷ front) all =
    ap (λ o. o ∷ map fields_of front) all.0.1 ∙ ap (λ t. Some all.0.0 ∷ t) (all_fields front all.1)
    ∙ sym (ap (λ o. map Some (cons_option o (filter_map fields_of front))) all.0.1)

with_last : (content : List (List ℕ)) (last : List ℕ) → AllByRecursion HasFields content → HasFields last → AllByRecursion HasFields (content ++ last ∷ [])
with_last [] last all is = (is, tt)
with_last (line ∷ content) last all is = (all.0, with_last content last all.1 is)

-- Lines that are no end

same_bytes_length : (a b : List ℕ) → bytes_eq a b ≡ true → length a ≡ length b
same_bytes_length [] [] e = refl
same_bytes_length [] (y ∷ b) e = cc
same_bytes_length (x ∷ a) [] e = cc
same_bytes_length (x ∷ a) (y ∷ b) e = ap (λ (n : ℕ). suc n) (same_bytes_length a b (and_parts (eqb x y) (bytes_eq a b) e).1)

lower_length : (a : List ℕ) → length (str_to_ascii_lowercase a) ≡ length a
lower_length [] = refl
lower_length (x ∷ a) = ap (λ (n : ℕ). suc n) (lower_length a)

pub same_length : (a b : List ℕ) → str_eq_ignore_ascii_case a b ≡ true → length a ≡ length b
same_length a b e = sym (lower_length a) ∙ same_bytes_length (str_to_ascii_lowercase a) (str_to_ascii_lowercase b) e ∙ lower_length b

not_end : (line : List ℕ) → length line ≡ 11 → is_end line ≡ false
not_end line l = here (is_end line) refl
  where
    here : (t : Bool) → is_end line ≡ t → is_end line ≡ false
    here false e = e
    here true e = let nine : length line ≡ 9 = same_length line (codes "END:VCARD") e in absurd (omega arith)

version_length : (line : List ℕ) → str_eq_ignore_ascii_case (take 8 line) (codes "VERSION:") ≡ true → bytes_eq (drop 8 line) (codes "4.0") ≡ true → length line ≡ 11
version_length line v f =
    let eight : length (take 8 line) ≡ 8 = same_length (take 8 line) (codes "VERSION:") v in
    let three : length (drop 8 line) ≡ 3 = same_bytes_length (drop 8 line) (codes "4.0") f in
    let both : length (take 8 line ++ drop 8 line) ≡ length line = ap length (take-append-drop 8 line) in
    omega (arith, length-append (take 8 line) (drop 8 line))

-- the lines up to the end
cut : (front : List (List ℕ)) (last : List ℕ) (blanks : List (List ℕ)) → AllByRecursion (λ line. is_end line ≡ false) front → is_end last ≡ true
    → up_to_end (front ++ last ∷ blanks) ≡ front ++ last ∷ []
cut [] last blanks on e = up_to_end_at last blanks e
cut (line ∷ front) last blanks on e = up_to_end_later line (front ++ last ∷ blanks) on.0 ∙ ap (λ t. line ∷ t) (cut front last blanks on.1 e)

-- lines without a fault: those up to the end have fields, and those after it have none
Parted : List (List ℕ) → Type 0
Parted all =
    (blanks : List (List ℕ)) × (all ≡ up_to_end all ++ blanks) × AllByRecursion HasFields (up_to_end all) × (filter_map fields_of blanks ≡ [])

parted : (all : List (List ℕ)) → AreCardLines all → Parted all
unfolding Parted
parted all c =
    let front = c.first ∷ c.second ∷ (c.content ++ c.last ∷ []) in
    let on : AllByRecursion (λ line. is_end line ≡ false) (c.first ∷ c.second ∷ c.content) =
    (not_end c.first (same_length c.first (codes "BEGIN:VCARD") c.begins), (not_end c.second (version_length c.second c.has_version c.is_four), c.goes_on)) in
    let up : up_to_end all ≡ front =
    ap (λ (ls : List (List ℕ)). up_to_end ls) c.parts ∙ cut (c.first ∷ c.second ∷ c.content) c.last c.blanks on c.ends in
    let whole : all ≡ front ++ c.blanks = c.parts ∙ ap (λ (t : List (List ℕ)). c.first ∷ c.second ∷ t) (sym (append_assoc c.content (c.last ∷ []) c.blanks)) in
    let have : AllByRecursion HasFields front =
    (card_begins c.first c.begins, (card_version c.second c.has_version, with_last c.content c.last (content_has c.content c.each) (card_ends c.last c.ends))) in
    (c.blanks, whole ∙ ap (λ (ls : List (List ℕ)). ls ++ c.blanks) (sym up), subst (AllByRecursion HasFields) (sym up) have, no_fields c.blanks c.blank)

pub lines_have_fields : (text : List ℕ) → lines_fault (lines text) ≡ None → map fields_of (card_lines text) ≡ map Some (fields_in text)
unfolding Parted
lines_have_fields text e =
    let parts = parted (lines text) (lines_sound (lines text) e) in
    all_fields (card_lines text) parts.2
    ∙ ap (λ (fs : List Fields). map Some fs) (sym (ap (λ (ls : List (List ℕ)). filter_map fields_of ls) parts.1 ∙ filter_map-append fields_of (card_lines text) parts.0
    ∙ ap (λ (fs : List Fields). filter_map fields_of (card_lines text) ++ fs) parts.3 ∙ append-nil (filter_map fields_of (card_lines text))))

within : (front blanks : List (List ℕ)) (i : ℕ) → i < length front → slice_get (front ++ blanks) i ≡ slice_get front i
within [] blanks i l = absurd (omega arith)
within (line ∷ front) blanks zero l = refl
within (line ∷ front) blanks (suc i) l = within front blanks i (omega arith)

fields_at : (front : List (List ℕ)) → AllByRecursion HasFields front → (i : ℕ) → i < length front → (f : Fields) × (option_and_then fields_of (slice_get front i) ≡ Some f)
unfolding HasFields
fields_at [] all i l = absurd (omega arith)
fields_at (line ∷ front) all zero l = all.0
fields_at (line ∷ front) all (suc i) l = fields_at front all.1 i (omega arith)

-- a line of a card is that line of its text, and has fields
pub line_has_fields : (text : List ℕ) → lines_fault (lines text) ≡ None → (i : ℕ) → i < length (card_lines text)
    → (slice_get (lines text) i ≡ slice_get (card_lines text) i) × (f : Fields) × (option_and_then fields_of (slice_get (card_lines text) i) ≡ Some f)
unfolding Parted
line_has_fields text e i l =
    let parts = parted (lines text) (lines_sound (lines text) e) in
    let found = fields_at (card_lines text) parts.2 i l in
    (ap (λ (ls : List (List ℕ)). slice_get ls i) parts.1 ∙ within (card_lines text) parts.0 i l, found.0, found.1)

pub mapped_some : {A B : Type 0} (f : A → B) (x : Option A) (y : B) → option_map f x ≡ Some y → IsSome x
mapped_some f None y e = cc
mapped_some f (Some x) y e = refl
