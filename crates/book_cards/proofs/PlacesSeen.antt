-- What was seen of the lines that a card is asked for.
use Rattle.book_cards.proofs.Common.{◌≡◌, ℕ, ◌-◌, ◌≤◌, Bool, true, false, cond, Option, Some, None, unwrap_or, List, [], ◌∷◌, ◌++◌, length, take, drop, refl, ap, sym, ◌∙◌, arith, append_assoc, length-append, codes, str_eq_ignore_ascii_case, lines, Fields, fields_of}
use Rattle.std.proofs.Common.{◌+◌, ◌≢◌, ◌<◌, if◌then◌else◌, length-drop, drop-drop, append-nil, take-append-drop}
use Rattle.std.proofs.Math.Seq.{drop-append_seam}
use Rattle.std.specs.Option.{option_or, option_map_or}
use Rattle.std.specs.List.{cons_option}
use Rattle.book_cards.specs.declared.places.PlacesSeen.{PlacesSeen}
use Rattle.book_cards.specs.declared.property.Property.{Property}
use Rattle.book_cards.specs.declared.property.Property.TheVariants.{Begin, End, Version, FormattedName, Uid, Kind, Member, Other}
use Rattle.book_cards.specs.CardText.{number_fault, version_fault}
use Rattle.book_cards.specs.declared.fault.CardFaultKind.TheVariants.{NoVersion}
use Rattle.book_cards.proofs.Grammar.{AllNames, params_nil, fields_complete}
use Rattle.book_cards.proofs.Numbers.{word_and_colon, same_length}
use Rattle.book_cards.specs.Places.{Ends, Follows, seen_nowhere, noted, looked_at, ArePlacesSeen}
use Rattle.book_cards.specs.Properties.{property_of, property_at, value_if, first_value, values, is_formatted_name, is_uid, is_member}

-- Ends of a text

pub ends_of : (text front rest : List ℕ) → text ≡ front ++ rest → Ends text rest
ends_of text front rest e =
    let n : length text - length rest ≡ length front = omega (arith, ap length e, length-append front rest) in
    ap (λ k. drop k text) n ∙ ap (drop (length front)) e ∙ drop-append_seam front rest

pub ends_nothing : (text : List ℕ) → Ends text []
ends_nothing text = ends_of text text [] (sym (append-nil text))

no_longer : (text rest : List ℕ) → Ends text rest → length rest ≤ length text
no_longer text rest e = omega (arith, length-drop (length text - length rest) text, ap length e)

pub ends_then : (text rest after : List ℕ) → Ends text rest → Ends rest after → Ends text after
ends_then text rest after e f =
    let first = no_longer text rest e in
    let second = no_longer rest after f in
    let n : length text - length after ≡ (length text - length rest) + (length rest - length after) = omega (arith, first, second) in
    ap (λ k. drop k text) n ∙ sym (drop-drop (length rest - length after) (length text - length rest) text) ∙ ap (drop (length rest - length after)) e ∙ f

-- Lines without a property

value_skipped : (q : Property → Bool) (line : List ℕ) → q (property_at line) ≡ false → value_if q (fields_of line) ≡ None
value_skipped q line lacks = here (fields_of line) refl
  where
    here : (o : Option Fields) → fields_of line ≡ o → value_if q o ≡ None
    here None e = refl
    here (Some f) e =
        let is : property_at line ≡ property_of f.name = ap (λ o. option_map_or (λ (g : Fields). property_of g.name) o Other) e in
        ap (λ t. cond t (Some f.value) None) (sym (ap q is) ∙ lacks)

pub first_skips : (q : Property → Bool) (line : List ℕ) (ls : List (List ℕ)) → q (property_at line) ≡ false → first_value q (line ∷ ls) ≡ first_value q ls
first_skips q line ls lacks = ap (λ o. option_or o (first_value q ls)) (value_skipped q line lacks)

pub values_skip : (q : Property → Bool) (line : List ℕ) (ls : List (List ℕ)) → q (property_at line) ≡ false → values q (line ∷ ls) ≡ values q ls
values_skip q line ls lacks = ap (λ o. cons_option o (values q ls)) (value_skipped q line lacks)

-- One more line

module _ {X : Type 0} (V : List (List ℕ) → X) (text rest after : List ℕ) where
  moved : (s : Option ℕ) → V (lines (looked_at text rest s)) ≡ V (lines text) → V (lines rest) ≡ V (lines after) → V (lines (looked_at text after s)) ≡ V (lines text)
  moved None h skip = sym skip ∙ h
  moved (Some n) h skip = h

  stopped : (s : Option ℕ) → V (lines (looked_at text rest s)) ≡ V (lines text) → Ends text rest
      → V (lines (looked_at text after (option_or s (Some (length text - length rest))))) ≡ V (lines text)
  stopped None h ends = ap (λ t. V (lines t)) ends ∙ h
  stopped (Some n) h ends = h

  finished : (s : Option ℕ) → V (lines (looked_at text rest s)) ≡ V (lines text) → Ends text rest
      → V (lines (drop (unwrap_or s (length text - length rest)) text)) ≡ V (lines text)
  finished None h ends = ap (λ t. V (lines t)) ends ∙ h
  finished (Some n) h ends = h

module _ (text rest after line : List ℕ) (seen : PlacesSeen) (are : ArePlacesSeen text rest seen) (split : lines rest ≡ line ∷ lines after) (ends : Ends rest after) where
  then_ends : Ends text after
  then_ends = ends_then text rest after are.ends ends

  first_moved : (q : Property → Bool) (s : Option ℕ) → q (property_at line) ≡ false → first_value q (lines (looked_at text rest s)) ≡ first_value q (lines text)
      → first_value q (lines (looked_at text after s)) ≡ first_value q (lines text)
  first_moved q s lacks h = moved (first_value q) text rest after s h (ap (first_value q) split ∙ first_skips q line (lines after) lacks)

  values_moved : (q : Property → Bool) (s : Option ℕ) → q (property_at line) ≡ false → values q (lines (looked_at text rest s)) ≡ values q (lines text)
      → values q (lines (looked_at text after s)) ≡ values q (lines text)
  values_moved q s lacks h = moved (values q) text rest after s h (ap (values q) split ∙ values_skip q line (lines after) lacks)

  passed_by : (p : Property) → p ≡ property_at line → is_formatted_name p ≡ false → is_uid p ≡ false → is_member p ≡ false → ArePlacesSeen text after seen
  passed_by p is f u m = record {
    ends = then_ends;
    formatted_name = first_moved is_formatted_name seen.formatted_name (sym (ap is_formatted_name is) ∙ f) are.formatted_name;
    uid = first_moved is_uid seen.uid (sym (ap is_uid is) ∙ u) are.uid;
    members = values_moved is_member seen.member (sym (ap is_member is) ∙ m) are.members;
  }

  pub one_more_seen : (p : Property) → p ≡ property_at line → ArePlacesSeen text after (noted seen p (length text - length rest))
  one_more_seen Begin is = passed_by Begin is refl refl refl
  one_more_seen End is = passed_by End is refl refl refl
  one_more_seen Version is = passed_by Version is refl refl refl
  one_more_seen Kind is = passed_by Kind is refl refl refl
  one_more_seen Other is = passed_by Other is refl refl refl
  one_more_seen FormattedName is = record {
    ends = then_ends;
    formatted_name = stopped (first_value is_formatted_name) text rest after seen.formatted_name are.formatted_name are.ends;
    uid = first_moved is_uid seen.uid (sym (ap is_uid is)) are.uid;
    members = values_moved is_member seen.member (sym (ap is_member is)) are.members;
  }
  one_more_seen Uid is = record {
    ends = then_ends;
    formatted_name = first_moved is_formatted_name seen.formatted_name (sym (ap is_formatted_name is)) are.formatted_name;
    uid = stopped (first_value is_uid) text rest after seen.uid are.uid are.ends;
    members = values_moved is_member seen.member (sym (ap is_member is)) are.members;
  }
  one_more_seen Member is = record {
    ends = then_ends;
    formatted_name = first_moved is_formatted_name seen.formatted_name (sym (ap is_formatted_name is)) are.formatted_name;
    uid = first_moved is_uid seen.uid (sym (ap is_uid is)) are.uid;
    members = stopped (values is_member) text rest after seen.member are.members are.ends;
  }

pub none_seen : (text rest : List ℕ) → Follows text rest → ArePlacesSeen text rest seen_nowhere
none_seen text rest f = record { ends = f.ends; formatted_name = f.same.formatted_name; uid = f.same.uid; members = f.same.members }

pub all_seen : (text rest : List ℕ) (seen : PlacesSeen) → ArePlacesSeen text rest seen
    → (first_value is_formatted_name (lines (drop (unwrap_or seen.formatted_name (length text - length rest)) text)) ≡ first_value is_formatted_name (lines text))
    × (first_value is_uid (lines (drop (unwrap_or seen.uid (length text - length rest)) text)) ≡ first_value is_uid (lines text))
    × (values is_member (lines (drop (unwrap_or seen.member (length text - length rest)) text)) ≡ values is_member (lines text))
all_seen text rest seen are = (
  finished (first_value is_formatted_name) text rest rest seen.formatted_name are.formatted_name are.ends,
  finished (first_value is_uid) text rest rest seen.uid are.uid are.ends,
  finished (values is_member) text rest rest seen.member are.members are.ends,
)

-- The two first lines

-- a line that names none of the properties
pub record NamesNone (line : List ℕ) : Type 0 where
  pub formatted_name : is_formatted_name (property_at line) ≡ false
  pub uid : is_uid (property_at line) ≡ false
  pub member : is_member (property_at line) ≡ false

told : Bool → Bool → Bool → Bool → Bool → Bool → Bool → Property
told b e v f u k m =
    if b then Begin else if e then End else if v then Version else if f then FormattedName else if u then Uid else if k then Kind else if m then Member else Other

NoneOf : Property → Type 0
NoneOf p = (is_formatted_name p ≡ false) × (is_uid p ≡ false) × (is_member p ≡ false)

told_none : (b e v f u k m : Bool) → f ≡ false → u ≡ false → m ≡ false → NoneOf (told b e v f u k m)
unfolding told NoneOf
told_none true e v f u k m x y z = (refl, refl, refl)
told_none false true v f u k m x y z = (refl, refl, refl)
told_none false false true f u k m x y z = (refl, refl, refl)
told_none false false false true u k m x y z = cc
told_none false false false false true k m x y z = cc
told_none false false false false false true m x y z = (refl, refl, refl)
told_none false false false false false false true x y z = cc
told_none false false false false false false false x y z = (refl, refl, refl)

other_word : (name word : List ℕ) → length name ≢ length word → str_eq_ignore_ascii_case name word ≡ false
other_word name word differ = here (str_eq_ignore_ascii_case name word) refl
  where
    here : (t : Bool) → str_eq_ignore_ascii_case name word ≡ t → str_eq_ignore_ascii_case name word ≡ false
    here false e = e
    here true e = absurd (differ (same_length name word e))

-- a name of five or of seven letters is none of them
none_by_length : (name : List ℕ) → length name ≢ 2 → length name ≢ 3 → length name ≢ 6 → NoneOf (property_of name)
unfolding told NoneOf
none_by_length name two three six =
    told_none (str_eq_ignore_ascii_case name (codes "BEGIN")) (str_eq_ignore_ascii_case name (codes "END")) (str_eq_ignore_ascii_case name (codes "VERSION"))
    (str_eq_ignore_ascii_case name (codes "FN")) (str_eq_ignore_ascii_case name (codes "UID")) (str_eq_ignore_ascii_case name (codes "KIND")) (str_eq_ignore_ascii_case name (codes "MEMBER"))
    (other_word name (codes "FN") two) (other_word name (codes "UID") three) (other_word name (codes "MEMBER") six)

names_none : (line name rest : List ℕ) → AllNames name → 0 < length name → length name ≢ 2 → length name ≢ 3 → length name ≢ 6 → line ≡ name ++ 58 ∷ rest → NamesNone line
unfolding NoneOf
names_none line name rest all some two three six spelled =
    let f : Fields = record { group = None; name = name; params = []; value = rest } in
    let is : fields_of line ≡ Some f = fields_complete line f (record { group = tt; name = (some, all); params = params_nil; spelled = spelled }) in
    let property : property_at line ≡ property_of name = ap (λ o. option_map_or (λ (g : Fields). property_of g.name) o Other) is in
    let none = none_by_length name two three six in
    record { formatted_name = ap is_formatted_name property ∙ none.0; uid = ap is_uid property ∙ none.1; member = ap is_member property ∙ none.2 }

pub begin_names_none : (line : List ℕ) → str_eq_ignore_ascii_case line (codes "BEGIN:VCARD") ≡ true → NamesNone line
begin_names_none line e =
    let parts = word_and_colon line (codes "BEGIN") (codes "VCARD") (refl, (refl, (refl, (refl, (refl, tt))))) e in
    let five : length parts.0 ≡ 5 = parts.3 in
    names_none line parts.0 parts.1 parts.2 (omega (arith, five)) (λ h. omega (arith, h, five)) (λ h. omega (arith, h, five)) (λ h. omega (arith, h, five)) parts.4

version_word : (line : List ℕ) → str_eq_ignore_ascii_case (take 8 line) (codes "VERSION:") ≡ true → NamesNone line
version_word line e =
    let parts = word_and_colon (take 8 line) (codes "VERSION") [] (refl, (refl, (refl, (refl, (refl, (refl, (refl, tt))))))) e in
    let seven : length parts.0 ≡ 7 = parts.3 in
    names_none line parts.0 (parts.1 ++ drop 8 line) parts.2 (omega (arith, seven)) (λ h. omega (arith, h, seven)) (λ h. omega (arith, h, seven)) (λ h. omega (arith, h, seven))
    (sym (take-append-drop 8 line) ∙ ap (λ t. t ++ drop 8 line) parts.4 ∙ append_assoc parts.0 (58 ∷ parts.1) (drop 8 line))

pub version_names_none : (line : List ℕ) → version_fault line ≡ None → NamesNone line
version_names_none line e = here (str_eq_ignore_ascii_case (take 8 line) (codes "VERSION:")) refl e
  where
    here : (t : Bool) → str_eq_ignore_ascii_case (take 8 line) (codes "VERSION:") ≡ t → cond t (number_fault (drop 8 line)) (Some NoVersion) ≡ None → NamesNone line
    here true is h = version_word line is
    here false is h = cc

pub follows_two : (text rest content first second : List ℕ) → lines text ≡ first ∷ lines rest → lines rest ≡ second ∷ lines content
    → Ends text rest → Ends rest content → NamesNone first → NamesNone second → Follows text content
follows_two text rest content first second a b e f none none_then = record {
  ends = ends_then text rest content e f;
  same = record {
    formatted_name = sym (ap (first_value is_formatted_name) a ∙ first_skips is_formatted_name first (lines rest) none.formatted_name
        ∙ ap (first_value is_formatted_name) b ∙ first_skips is_formatted_name second (lines content) none_then.formatted_name);
    uid = sym (ap (first_value is_uid) a ∙ first_skips is_uid first (lines rest) none.uid ∙ ap (first_value is_uid) b ∙ first_skips is_uid second (lines content) none_then.uid);
    members = sym (ap (values is_member) a ∙ values_skip is_member first (lines rest) none.member ∙ ap (values is_member) b ∙ values_skip is_member second (lines content) none_then.member);
  };
}
