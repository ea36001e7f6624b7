-- A text without a fault is a card, and a card has no fault.
use Rattle.book_cards.proofs.Common.{◌≡◌, ℕ, suc, ◌+◌, ◌≤◌, Bool, true, false, ◌||◌, cond, Option, Some, None, List, [], ◌∷◌, ◌++◌, length, take, drop, refl, ap, sym, ◌∙◌, subst, arith, codes, option_map, option_and_then, AllByRecursion, str_eq_ignore_ascii_case, lines, unfolded, Fields, fields_of, is_end, after_end_fault, lines_fault}
use Rattle.std.specs.Prelude.{nat_lt}
use Rattle.std.specs.Option.{option_or, option_map_or}
use Rattle.std.specs.List.{list_any, before_first}
use Rattle.std.specs.Str.{bytes_eq}
use Rattle.std.proofs.lemmas.Bool.{or_parts}
use Rattle.book_cards.specs.declared.property.Property.{Property}
use Rattle.book_cards.specs.declared.property.Property.TheVariants.{Begin, End, Version, FormattedName, Uid, Kind, Member, Other}
use Rattle.book_cards.specs.declared.fault.CardFault.{CardFault}
use Rattle.book_cards.specs.declared.fault.CardFaultKind.TheVariants.{NoFormattedName, Twice, MemberWithoutGroup, NoEnd, AfterEnd, NoVersion, OtherVersion, NoBegin, TooLong}
use Rattle.book_cards.specs.Reading.{is_empty}
use Rattle.book_cards.specs.Properties.{property_of, property_at, has, first_line, is_group, is_formatted_name, is_uid, is_kind, is_member, is_version, count_of}
use Rattle.book_cards.specs.Content.{may_have, with_its_value, is_control, content_of}
use Rattle.book_cards.specs.CardText.{at, repeats, fault_of_content, line_fault, end_fault, name_fault, member_fault, content_fault, version_fault, fault_after_begin, card_fault}
use Rattle.book_cards.specs.Valid.{IsContent, AreCardLines, IsCard}
use Rattle.book_cards.proofs.Scans.{has_more, content_nil, content_cons, end_at, end_later, fields_passed}
use Rattle.book_cards.proofs.Grammar.{fields_sound, fields_complete}
use Rattle.book_limits.specs.declared.TheConstants.{MAX_CARD_BYTES}

or_none : {A : Type 0} (x y : Option A) → option_or x y ≡ None → (x ≡ None) × (y ≡ None)
or_none None y e = (refl, e)
or_none (Some x) y e = cc

map_none : {A B : Type 0} (f : A → B) (x : Option A) → option_map f x ≡ None → x ≡ None
map_none f None e = refl
map_none f (Some x) e = cc

-- a test that gives a fault where it passes, or where it fails
then_none : {A : Type 0} (t : Bool) (a : A) (x : Option A) → cond t (Some a) x ≡ None → (t ≡ false) × (x ≡ None)
then_none true a x e = cc
then_none false a x e = (refl, e)

else_none : {A : Type 0} (t : Bool) (a : A) (x : Option A) → cond t x (Some a) ≡ None → (t ≡ true) × (x ≡ None)
else_none true a x e = (refl, e)
else_none false a x e = cc

-- Content lines

property_is : (line : List ℕ) (f : Fields) → fields_of line ≡ Some f → property_at line ≡ property_of f.name
property_is line f e = ap (λ o. option_map_or (λ (g : Fields). property_of g.name) o Other) e

passed : (line : List ℕ) (f : Fields) → content_of line ≡ Some f → IsContent line
passed line f e =
    let fields : fields_of line ≡ Some f = fields_passed line f e in
    let parts = tests (list_any is_control line) refl (may_have (property_of f.name) f.value) refl (ap (λ o. cond (list_any is_control line) None (option_and_then with_its_value o)) (sym fields) ∙ e) in
    record { fields = f; grammar = fields_sound line f fields; plain = parts.0; value = parts.1 }
  where
    tests : (c : Bool) → list_any is_control line ≡ c → (v : Bool) → may_have (property_of f.name) f.value ≡ v → cond c None (cond v (Some f) None) ≡ Some f
        → (list_any is_control line ≡ false) × (may_have (property_of f.name) f.value ≡ true)
    tests true p v q h = cc
    tests false p true q h = (p, q)
    tests false p false q h = cc

passes : (line : List ℕ) (is : IsContent line) → content_of line ≡ Some is.fields
passes line is =
    ap (λ t. cond t None (option_and_then with_its_value (fields_of line))) is.plain
    ∙ ap (λ o. option_and_then with_its_value o) (fields_complete line is.fields is.grammar)
    ∙ ap (λ t. cond t (Some is.fields) None) is.value

-- where the lines before have the property none may have it, and no two have
abbrev Once : (Property → Bool) → List (List ℕ) → List (List ℕ) → Type 0
Once q before lines = (has q before ≡ true → count_of q lines ≡ 0) × (count_of q lines ≤ 1)

once_step : (q : Property → Bool) (before : List (List ℕ)) (line : List ℕ) (rest : List (List ℕ))
    → (q (property_at line) ≡ true → has q before ≡ false) → Once q (before ++ line ∷ []) rest → Once q before (line ∷ rest)
once_step q before line rest new later = here (q (property_at line)) refl
  where
    or_true : (b : Bool) → (b || true) ≡ true
    or_true true = refl
    or_true false = refl

    here : (t : Bool) → q (property_at line) ≡ t → (has q before ≡ true → cond t 1 0 + count_of q rest ≡ 0) × (cond t 1 0 + count_of q rest ≤ 1)
    here true e =
        let none : count_of q rest ≡ 0 = later.0 (has_more q before line ∙ ap (λ t. has q before || t) e ∙ or_true (has q before)) in
        let before_not : has q before ≡ false = new e in
        (λ stood. cc, omega arith)
    here false e = (
      λ stood. let none : count_of q rest ≡ 0 = later.0 (has_more q before line ∙ ap (λ t. t || q (property_at line)) stood) in omega arith,
      let le : count_of q rest ≤ 1 = later.1 in omega arith,
    )

once_back : (q : Property → Bool) (before : List (List ℕ)) (line : List ℕ) (rest : List (List ℕ))
    → Once q before (line ∷ rest) → (q (property_at line) ≡ true → has q before ≡ false) × Once q (before ++ line ∷ []) rest
once_back q before line rest once = here (q (property_at line)) refl (has q before) refl once
  where
    here : (t : Bool) → q (property_at line) ≡ t → (s : Bool) → has q before ≡ s → (s ≡ true → cond t 1 0 + count_of q rest ≡ 0) × (cond t 1 0 + count_of q rest ≤ 1)
        → (q (property_at line) ≡ true → has q before ≡ false) × Once q (before ++ line ∷ []) rest
    here true e true h o = let one : 1 + count_of q rest ≡ 0 = o.0 refl in absurd (omega arith)
    here true e false h o = let le : 1 + count_of q rest ≤ 1 = o.1 in (λ _. h, (λ _. omega arith, omega arith))
    here false e true h o = let none : 0 + count_of q rest ≡ 0 = o.0 refl in (λ k. cc, (λ _. omega arith, omega arith))
    here false e false h o =
        let le : 0 + count_of q rest ≤ 1 = o.1 in
        (λ k. cc, (λ k. let no : has q (before ++ line ∷ []) ≡ false = has_more q before line ∙ ap (λ t. t || q (property_at line)) h ∙ e in cc, omega arith))

-- what may not stand again has not stood
fresh_kind : (p : Property) (before : List (List ℕ)) → repeats p before ≡ false → is_kind p ≡ true → has is_kind before ≡ false
fresh_kind Kind before r e = r
fresh_kind Begin before r e = cc
fresh_kind End before r e = cc
fresh_kind Version before r e = cc
fresh_kind FormattedName before r e = cc
fresh_kind Uid before r e = cc
fresh_kind Member before r e = cc
fresh_kind Other before r e = cc

fresh_uid : (p : Property) (before : List (List ℕ)) → repeats p before ≡ false → is_uid p ≡ true → has is_uid before ≡ false
fresh_uid Uid before r e = r
fresh_uid Begin before r e = cc
fresh_uid End before r e = cc
fresh_uid Version before r e = cc
fresh_uid FormattedName before r e = cc
fresh_uid Kind before r e = cc
fresh_uid Member before r e = cc
fresh_uid Other before r e = cc

no_more_version : (p : Property) (before : List (List ℕ)) → repeats p before ≡ false → is_version p ≡ false
no_more_version Version before r = cc
no_more_version Begin before r = refl
no_more_version End before r = refl
no_more_version FormattedName before r = refl
no_more_version Uid before r = refl
no_more_version Kind before r = refl
no_more_version Member before r = refl
no_more_version Other before r = refl

repeats_not : (p : Property) (before : List (List ℕ)) → (is_kind p ≡ true → has is_kind before ≡ false) → (is_uid p ≡ true → has is_uid before ≡ false) → is_version p ≡ false → repeats p before ≡ false
repeats_not Kind before k u v = k refl
repeats_not Uid before k u v = u refl
repeats_not Version before k u v = cc
repeats_not Begin before k u v = refl
repeats_not End before k u v = refl
repeats_not FormattedName before k u v = refl
repeats_not Member before k u v = refl
repeats_not Other before k u v = refl

record Sound (before content : List (List ℕ)) : Type 0 where
  each : AllByRecursion IsContent content
  kinds : Once is_kind before content
  uids : Once is_uid before content
  no_version : has is_version content ≡ false

content_sound : (before : List (List ℕ)) (n : ℕ) (content : List (List ℕ)) → line_fault before n content ≡ None → Sound before content
content_sound before n [] e = record { each = tt; kinds = (λ _. refl, omega arith); uids = (λ _. refl, omega arith); no_version = refl }
content_sound before n (line ∷ rest) e =
    let parts = or_none (option_map (at n) (fault_of_content before (content_of line))) (line_fault (before ++ line ∷ []) (n + 1) rest) e in
    here (content_of line) refl (map_none (at n) (fault_of_content before (content_of line)) parts.0) (content_sound (before ++ line ∷ []) (n + 1) rest parts.1)
  where
    here : (o : Option Fields) → content_of line ≡ o → fault_of_content before o ≡ None → Sound (before ++ line ∷ []) rest → Sound before (line ∷ rest)
    here None is h later = cc
    here (Some f) is h later =
        let property : property_at line ≡ property_of f.name = property_is line f (fields_passed line f is) in
        let new : repeats (property_of f.name) before ≡ false = (then_none (repeats (property_of f.name) before) Twice None h).0 in
        record {
          each = (passed line f is, later.each);
          kinds = once_step is_kind before line rest (λ k. fresh_kind (property_of f.name) before new (ap is_kind (sym property) ∙ k)) later.kinds;
          uids = once_step is_uid before line rest (λ k. fresh_uid (property_of f.name) before new (ap is_uid (sym property) ∙ k)) later.uids;
          no_version = ap (λ p. is_version p || has is_version rest) property ∙ ap (λ t. t || has is_version rest) (no_more_version (property_of f.name) before new) ∙ later.no_version;
        }

content_complete : (before : List (List ℕ)) (n : ℕ) (content : List (List ℕ)) → AllByRecursion IsContent content → Once is_kind before content → Once is_uid before content
    → has is_version content ≡ false → line_fault before n content ≡ None
content_complete before n [] each kinds uids version = refl
content_complete before n (line ∷ rest) each kinds uids version =
    let is = each.0 in
    let f = is.fields in
    let property : property_at line ≡ property_of f.name = property_is line f (fields_complete line f is.grammar) in
    let kind = once_back is_kind before line rest kinds in
    let uid = once_back is_uid before line rest uids in
    let versions = or_parts (is_version (property_at line)) (has is_version rest) version in
    let new : repeats (property_of f.name) before ≡ false =
    repeats_not (property_of f.name) before (λ k. kind.0 (ap is_kind property ∙ k)) (λ k. uid.0 (ap is_uid property ∙ k)) (ap is_version (sym property) ∙ versions.0) in
    ap (λ o. option_or (option_map (at n) (fault_of_content before o)) (line_fault (before ++ line ∷ []) (n + 1) rest)) (passes line is)
    ∙ ap (λ t. option_or (option_map (at n) (cond t (Some Twice) None)) (line_fault (before ++ line ∷ []) (n + 1) rest)) new
    ∙ content_complete (before ++ line ∷ []) (n + 1) rest each.1 kind.1 uid.1 versions.1

-- The end

goes_on : (rest : List (List ℕ)) → AllByRecursion (λ line. is_end line ≡ false) (before_first is_end rest)
goes_on [] = tt
goes_on (line ∷ rest) = here (is_end line) refl (goes_on rest)
  where
    here : (t : Bool) → is_end line ≡ t → AllByRecursion (λ l. is_end l ≡ false) (before_first is_end rest) → AllByRecursion (λ l. is_end l ≡ false) (before_first is_end (line ∷ rest))
    here true e later = subst (AllByRecursion (λ l. is_end l ≡ false)) (sym (content_nil line rest e)) tt
    here false e later = subst (AllByRecursion (λ l. is_end l ≡ false)) (sym (content_cons line rest e)) (e, later)

blanks_sound : (n : ℕ) (blanks : List (List ℕ)) → after_end_fault n blanks ≡ None → AllByRecursion (λ line. line ≡ []) blanks
blanks_sound n [] e = tt
blanks_sound n (line ∷ rest) e = let parts = else_none (is_empty line) (at n AfterEnd) (after_end_fault (n + 1) rest) e in (nil line parts.0, blanks_sound (n + 1) rest parts.1)
  where
    nil : (l : List ℕ) → is_empty l ≡ true → l ≡ []
    nil [] k = refl
    nil (b ∷ l) k = absurd (not_nil (length l) k)
      where
        not_nil : (m : ℕ) → lib.Dec.eqb (suc m) 0 ≡ true → ⊥
        not_nil m h = grind arith

blanks_complete : (n : ℕ) (blanks : List (List ℕ)) → AllByRecursion (λ line. line ≡ []) blanks → after_end_fault n blanks ≡ None
blanks_complete n [] h = refl
blanks_complete n (line ∷ rest) h = ap (λ (l : List ℕ). cond (is_empty l) (after_end_fault (n + 1) rest) (Some (at n AfterEnd))) h.0 ∙ blanks_complete (n + 1) rest h.1

-- where there is an end, it parts the lines
end_parts : (n : ℕ) (rest : List (List ℕ)) → end_fault n rest ≡ None → (last : List ℕ) × (blanks : List (List ℕ)) × (is_end last ≡ true) × (rest ≡ before_first is_end rest ++ last ∷ blanks) × AllByRecursion (λ line. line ≡ []) blanks
end_parts n [] e = cc
end_parts n (line ∷ rest) e = here (is_end line) refl (λ h. end_parts n rest h)
  where
    here : (t : Bool) → is_end line ≡ t
        → (end_fault n rest ≡ None → (last : List ℕ) × (blanks : List (List ℕ)) × (is_end last ≡ true) × (rest ≡ before_first is_end rest ++ last ∷ blanks) × AllByRecursion (λ l. l ≡ []) blanks)
        → (last : List ℕ) × (blanks : List (List ℕ)) × (is_end last ≡ true) × (line ∷ rest ≡ before_first is_end (line ∷ rest) ++ last ∷ blanks) × AllByRecursion (λ l. l ≡ []) blanks
    here true is later =
        (line, rest, is, sym (ap (λ (c : List (List ℕ)). c ++ line ∷ rest) (content_nil line rest is)), blanks_sound (n + 1) rest (sym (end_at n line rest is) ∙ e))
    here false is later =
        let found = later (sym (end_later n line rest is) ∙ e) in
        (found.0, found.1, found.2, ap (λ t. line ∷ t) found.3 ∙ sym (ap (λ (c : List (List ℕ)). c ++ found.0 ∷ found.1) (content_cons line rest is)), found.4)

parts_end : (content : List (List ℕ)) (last : List ℕ) (blanks : List (List ℕ)) → AllByRecursion (λ line. is_end line ≡ false) content → is_end last ≡ true
    → (before_first is_end (content ++ last ∷ blanks) ≡ content) × ((m : ℕ) → end_fault m (content ++ last ∷ blanks) ≡ after_end_fault (m + 1) blanks)
parts_end [] last blanks on e = (content_nil last blanks e, λ m. end_at m last blanks e)
parts_end (line ∷ content) last blanks on e =
    let later = parts_end content last blanks on.1 e in (
      content_cons line (content ++ last ∷ blanks) on.0 ∙ ap (λ t. line ∷ t) later.0,
      λ m. end_later m line (content ++ last ∷ blanks) on.0 ∙ later.1 m,
    )

-- Members

no_first : (q : Property → Bool) (n : ℕ) (lines : List (List ℕ)) → first_line q n lines ≡ None → has q lines ≡ false
no_first q n [] e = refl
no_first q n (line ∷ rest) e =
    let parts = then_none (q (property_at line)) n (first_line q (n + 1) rest) e in
    ap (λ t. t || has q rest) parts.0 ∙ no_first q (n + 1) rest parts.1

first_none : (q : Property → Bool) (n : ℕ) (lines : List (List ℕ)) → has q lines ≡ false → first_line q n lines ≡ None
first_none q n [] e = refl
first_none q n (line ∷ rest) e =
    let parts = or_parts (q (property_at line)) (has q rest) e in
    ap (λ t. cond t (Some n) (first_line q (n + 1) rest)) parts.0 ∙ first_none q (n + 1) rest parts.1

member_sound : (content : List (List ℕ)) → member_fault content ≡ None → has is_member content ≡ true → is_group content ≡ true
member_sound content e stands = here (is_group content) refl e
  where
    here : (t : Bool) → is_group content ≡ t → cond t None (option_map (λ n. at n MemberWithoutGroup) (first_line is_member 3 content)) ≡ None → is_group content ≡ true
    here true is h = is
    here false is h = let none = no_first is_member 3 content (map_none (λ n. at n MemberWithoutGroup) (first_line is_member 3 content) h) in cc

member_complete : (content : List (List ℕ)) → (has is_member content ≡ true → is_group content ≡ true) → member_fault content ≡ None
member_complete content h = here (has is_member content) refl
  where
    both : (t : Bool) → cond t None (option_map (λ n. at n MemberWithoutGroup) None) ≡ None
    both true = refl
    both false = refl

    here : (t : Bool) → has is_member content ≡ t → member_fault content ≡ None
    here true is = ap (λ t. cond t None (option_map (λ n. at n MemberWithoutGroup) (first_line is_member 3 content))) (h is)
    here false is = ap (λ o. cond (is_group content) None (option_map (λ n. at n MemberWithoutGroup) o)) (first_none is_member 3 content is) ∙ both (is_group content)

-- Together

pub lines_sound : (ls : List (List ℕ)) → lines_fault ls ≡ None → AreCardLines ls
lines_sound [] e = cc
lines_sound (first ∷ []) e = let parts = else_none (str_eq_ignore_ascii_case first (codes "BEGIN:VCARD")) (at 1 NoBegin) (Some (at 2 NoEnd)) e in absurd (none (at 2 NoEnd) parts.1)
  where
    none : (f : CardFault) → Some f ≡ None → ⊥
    none f h = cc
lines_sound (first ∷ second ∷ rest) e =
    let begin = else_none (str_eq_ignore_ascii_case first (codes "BEGIN:VCARD")) (at 1 NoBegin) (fault_after_begin (second ∷ rest)) e in
    let after = or_none (option_map (at 2) (version_fault second)) (content_fault rest) begin.1 in
    let content = before_first is_end rest in
    let last = length content + 3 in
    let c1 = or_none (line_fault [] 3 content) (option_or (end_fault last rest) (option_or (name_fault last content) (member_fault content))) after.1 in
    let c2 = or_none (end_fault last rest) (option_or (name_fault last content) (member_fault content)) c1.1 in
    let c3 = or_none (name_fault last content) (member_fault content) c2.1 in
    let version = else_none (str_eq_ignore_ascii_case (take 8 second) (codes "VERSION:")) NoVersion (cond (bytes_eq (drop 8 second) (codes "4.0")) None (Some OtherVersion)) (map_none (at 2) (version_fault second) after.0) in
    let four = else_none (bytes_eq (drop 8 second) (codes "4.0")) OtherVersion None version.1 in
    let sound = content_sound [] 3 content c1.0 in
    let end_is = end_parts last rest c2.0 in
    record {
      first = first;
      second = second;
      content = content;
      last = end_is.0;
      blanks = end_is.1;
      parts = ap (λ (t : List (List ℕ)). first ∷ second ∷ t) end_is.3;
      begins = begin.0;
      has_version = version.0;
      is_four = four.0;
      each = sound.each;
      goes_on = goes_on rest;
      ends = end_is.2;
      blank = end_is.4;
      named = (else_none (has is_formatted_name content) (at last NoFormattedName) None c3.0).0;
      one_kind = sound.kinds.1;
      one_uid = sound.uids.1;
      no_version = sound.no_version;
      group = member_sound content c3.1;
    }

lines_complete : (ls : List (List ℕ)) → AreCardLines ls → lines_fault ls ≡ None
lines_complete ls card =
    let c = card.content in
    let rest = c ++ card.last ∷ card.blanks in
    let cut = parts_end c card.last card.blanks card.goes_on card.ends in
    let content : content_fault rest ≡ None =
    ap (λ (k : List (List ℕ)). option_or (line_fault [] 3 k) (option_or (end_fault (length k + 3) rest) (option_or (name_fault (length k + 3) k) (member_fault k)))) cut.0
    ∙ ap (λ o. option_or o (option_or (end_fault (length c + 3) rest) (option_or (name_fault (length c + 3) c) (member_fault c)))) (content_complete [] 3 c card.each (λ h. cc, card.one_kind) (λ h. cc, card.one_uid) card.no_version)
    ∙ ap (λ o. option_or o (option_or (name_fault (length c + 3) c) (member_fault c))) (cut.1 (length c + 3) ∙ blanks_complete (length c + 3 + 1) card.blanks card.blank)
    ∙ ap (λ t. option_or (cond t None (Some (at (length c + 3) NoFormattedName))) (member_fault c)) card.named
    ∙ member_complete c card.group in
    ap lines_fault card.parts
    ∙ ap (λ t. cond t (fault_after_begin (card.second ∷ rest)) (Some (at 1 NoBegin))) card.begins
    ∙ ap (λ t. option_or (option_map (at 2) (cond t (cond (bytes_eq (drop 8 card.second) (codes "4.0")) None (Some OtherVersion)) (Some NoVersion))) (content_fault rest)) card.has_version
    ∙ ap (λ t. option_or (option_map (at 2) (cond t None (Some OtherVersion))) (content_fault rest)) card.is_four
    ∙ content

not_long : (n : ℕ) → nat_lt MAX_CARD_BYTES n ≡ false → n ≤ MAX_CARD_BYTES
not_long n e = grind arith

short_enough : (n : ℕ) → n ≤ MAX_CARD_BYTES → nat_lt MAX_CARD_BYTES n ≡ false
short_enough n l = grind arith

pub card_sound : (text : List ℕ) → card_fault text ≡ None → IsCard text
card_sound text e =
    let parts = then_none (nat_lt MAX_CARD_BYTES (length text)) (at 0 TooLong) (lines_fault (lines (unfolded text))) e in
    record { short = not_long (length text) parts.0; card = lines_sound (lines (unfolded text)) parts.1 }

pub card_complete : (text : List ℕ) → IsCard text → card_fault text ≡ None
card_complete text is =
    ap (λ t. cond t (Some (at 0 TooLong)) (lines_fault (lines (unfolded text)))) (short_enough (length text) is.short)
    ∙ lines_complete (lines (unfolded text)) is.card

-- of a text whose unfolded lines have no fault
pub read_sound : (text whole : List ℕ) → length text ≤ MAX_CARD_BYTES → whole ≡ unfolded text → lines_fault (lines whole) ≡ None → IsCard text
read_sound text whole short is e = record { short = short; card = lines_sound (lines (unfolded text)) (ap (λ t. lines_fault (lines t)) (sym is) ∙ e) }
