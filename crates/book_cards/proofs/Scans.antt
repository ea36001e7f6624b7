-- What one pass over the content lines finds is their first fault.
use Rattle.book_cards.proofs.Common.{◌≡◌, ℕ, suc, ◌+◌, Bool, true, false, ◌||◌, cond, Option, Some, None, unwrap_or, List, [], ◌∷◌, ◌++◌, length, take, drop, refl, ap, sym, ◌∙◌, arith, append_assoc, length-append, codes, option_map, str_eq_ignore_ascii_case, Fields, fields_of, is_end, after_end_fault}
use mathlib.Core.Bool.{or-true, or-false, or_assoc}
use Rattle.std.proofs.Common.{not, zero-add}
use Rattle.std.specs.Prelude.{nat_lt}
use Rattle.std.specs.Option.{option_or, option_map_or, is_some, ok_or}
use Rattle.std.specs.List.{list_any, before_first, position_or_len}
use Rattle.std.proofs.lemmas.List.{append-nil}
use Rattle.book_cards.specs.declared.property.Property.{Property}
use Rattle.book_cards.specs.declared.property.Property.TheVariants.{Begin, End, Version, FormattedName, Uid, Kind, Member, Other}
use Rattle.book_cards.specs.declared.fault.CardFault.{CardFault}
use Rattle.book_cards.specs.declared.fault.CardFaultKind.TheVariants.{NoFormattedName, Twice, MemberWithoutGroup, NoEnd}
use Rattle.book_cards.specs.declared.check.Seen.{Seen}
use Rattle.book_cards.specs.Properties.{property_of, property_at, has, value_if, first_value, first_line, is_formatted_name, is_uid, is_kind, is_member}
use Rattle.book_cards.specs.Content.{may_have, with_its_value, is_control, content_of}
use Rattle.book_cards.specs.CardText.{at, repeats, fault_of_content, line_fault, up_to_end, end_fault, name_fault, member_fault, content_fault}
use Rattle.book_cards.specs.Scanning.{seen_in, seen_with, is_known_group, seen_fault, pass_content, or_go_on, scan}
use Rattle.book_cards.proofs.Grammar.{one_more}

-- Options

option_or_none : {A : Type 0} (x : Option A) → option_or x None ≡ x
option_or_none None = refl
option_or_none (Some x) = refl

option_or_assoc : {A : Type 0} (x y z : Option A) → option_or (option_or x y) z ≡ option_or x (option_or y z)
option_or_assoc None y z = refl
option_or_assoc (Some x) y z = refl

-- One more line

pub has_more : (q : Property → Bool) (lines : List (List ℕ)) (line : List ℕ) → has q (lines ++ line ∷ []) ≡ (has q lines || q (property_at line))
has_more q [] line = or-false (q (property_at line))
has_more q (l ∷ lines) line = ap (λ t. q (property_at l) || t) (has_more q lines line) ∙ sym (or_assoc (q (property_at l)) (has q lines) (q (property_at line)))

first_value_more : (q : Property → Bool) (lines : List (List ℕ)) (line : List ℕ) → first_value q (lines ++ line ∷ []) ≡ option_or (first_value q lines) (value_if q (fields_of line))
first_value_more q [] line = option_or_none (value_if q (fields_of line))
first_value_more q (l ∷ lines) line =
    ap (λ t. option_or (value_if q (fields_of l)) t) (first_value_more q lines line)
    ∙ sym (option_or_assoc (value_if q (fields_of l)) (first_value q lines) (value_if q (fields_of line)))

first_line_more : (q : Property → Bool) (n m : ℕ) (lines : List (List ℕ)) (line : List ℕ) → m ≡ length lines + n
    → first_line q n (lines ++ line ∷ []) ≡ option_or (first_line q n lines) (cond (q (property_at line)) (Some m) None)
first_line_more q n m [] line e = ap (λ (k : ℕ). cond (q (property_at line)) (Some k) None) (sym (e ∙ zero-add n))
first_line_more q n m (l ∷ lines) line e = here (q (property_at l)) (first_line_more q (n + 1) m lines line (omega arith))
  where
    here : (t : Bool) → first_line q (n + 1) (lines ++ line ∷ []) ≡ option_or (first_line q (n + 1) lines) (cond (q (property_at line)) (Some m) None)
        → cond t (Some n) (first_line q (n + 1) (lines ++ line ∷ [])) ≡ option_or (cond t (Some n) (first_line q (n + 1) lines)) (cond (q (property_at line)) (Some m) None)
    here true h = refl
    here false h = h

-- a property has a first value where it stands
value_stands : (q : Property → Bool) (f : Option Fields) → q Other ≡ false → is_some (value_if q f) ≡ q (option_map_or (λ (g : Fields). property_of g.name) f Other)
value_stands q None e = sym e
value_stands q (Some f) e = here (q (property_of f.name))
  where
    here : (t : Bool) → is_some (cond t (Some f.value) None) ≡ t
    here true = refl
    here false = refl

is_some_or : {A : Type 0} (x y : Option A) → is_some (option_or x y) ≡ (is_some x || is_some y)
is_some_or None y = refl
is_some_or (Some x) y = refl

stands : (q : Property → Bool) (lines : List (List ℕ)) → q Other ≡ false → is_some (first_value q lines) ≡ has q lines
stands q [] e = refl
stands q (l ∷ lines) e =
    is_some_or (value_if q (fields_of l)) (first_value q lines)
    ∙ ap (λ t. t || is_some (first_value q lines)) (value_stands q (fields_of l) e) ∙ ap (λ t. q (property_at l) || t) (stands q lines e)

is_some_map : {A B : Type 0} (f : A → B) (x : Option A) → is_some (option_map f x) ≡ is_some x
is_some_map f None = refl
is_some_map f (Some x) = refl

says_group : List ℕ → Bool
says_group value = str_eq_ignore_ascii_case value (codes "group")

-- what has been seen with one more line of this property and value
seen_more : List (List ℕ) → Property → List ℕ → ℕ → Seen
seen_more before p value n = record {
  group = option_map (λ v. str_eq_ignore_ascii_case v (codes "group")) (option_or (first_value is_kind before) (cond (is_kind p) (Some value) None));
  uid = has is_uid before || is_uid p;
  formatted_name = has is_formatted_name before || is_formatted_name p;
  member = option_or (first_line is_member 3 before) (cond (is_member p) (Some n) None);
}

seen_in_more : (before : List (List ℕ)) (line : List ℕ) (f : Fields) (n : ℕ) → n ≡ length before + 3 → fields_of line ≡ Some f
    → seen_more before (property_of f.name) f.value n ≡ seen_in (before ++ line ∷ [])
unfolding seen_more
seen_in_more before line f n e is =
    let property : property_at line ≡ property_of f.name = ap (λ o. option_map_or (λ (g : Fields). property_of g.name) o Other) is in
    let g = first_value_more is_kind before line ∙ ap (λ o. option_or (first_value is_kind before) (value_if is_kind o)) is in
    let u = has_more is_uid before line ∙ ap (λ p. has is_uid before || is_uid p) property in
    let w = has_more is_formatted_name before line ∙ ap (λ p. has is_formatted_name before || is_formatted_name p) property in
    let m = first_line_more is_member 3 n before line e ∙ ap (λ p. option_or (first_line is_member 3 before) (cond (is_member p) (Some n) None)) property in
    λ i. record {
      group = option_map (λ v. str_eq_ignore_ascii_case v (codes "group")) (sym g i);
      uid = sym u i;
      formatted_name = sym w i;
      member = sym m i;
    }

-- a line that may not stand again stops the reader
step_repeats : (before : List (List ℕ)) (p : Property) (value : List ℕ) (n : ℕ) → repeats p before ≡ true → seen_with (seen_in before) p value n ≡ None
step_repeats before Version value n e = refl
step_repeats before Kind value n e =
    ap (λ t. cond t None (Some (record (seen_in before) { group = Some (str_eq_ignore_ascii_case value (codes "group")) })))
    (is_some_map (λ v. str_eq_ignore_ascii_case v (codes "group")) (first_value is_kind before) ∙ stands is_kind before refl ∙ e)
step_repeats before Uid value n e = ap (λ t. cond t None (Some (record (seen_in before) { uid = true }))) e
step_repeats before Begin value n e = cc
step_repeats before End value n e = cc
step_repeats before FormattedName value n e = cc
step_repeats before Member value n e = cc
step_repeats before Other value n e = cc

first_of_none : (x : Option (List ℕ)) (value : List ℕ) → is_some x ≡ false → option_or x (Some value) ≡ Some value
first_of_none None value e = refl
first_of_none (Some x) value e = cc

-- any other goes on
step_goes_on : (before : List (List ℕ)) (p : Property) (value : List ℕ) (n : ℕ) → repeats p before ≡ false → seen_with (seen_in before) p value n ≡ Some (seen_more before p value n)
unfolding seen_more
step_goes_on before Version value n e = cc
step_goes_on before Kind value n e =
    let none : is_some (first_value is_kind before) ≡ false = stands is_kind before refl ∙ e in
    ap (λ t. cond t None (Some (record (seen_in before) { group = Some (str_eq_ignore_ascii_case value (codes "group")) })))
    (is_some_map (λ v. str_eq_ignore_ascii_case v (codes "group")) (first_value is_kind before) ∙ none)
    ∙ λ i. Some (record {
      group = option_map (λ v. str_eq_ignore_ascii_case v (codes "group")) (sym (first_of_none (first_value is_kind before) value none) i);
      uid = sym (or-false (has is_uid before)) i;
      formatted_name = sym (or-false (has is_formatted_name before)) i;
      member = sym (option_or_none (first_line is_member 3 before)) i;
    })
step_goes_on before Uid value n e =
    ap (λ t. cond t None (Some (record (seen_in before) { uid = true }))) e
    ∙ λ i. Some (record {
      group = option_map (λ v. str_eq_ignore_ascii_case v (codes "group")) (sym (option_or_none (first_value is_kind before)) i);
      uid = sym (or-true (has is_uid before)) i;
      formatted_name = sym (or-false (has is_formatted_name before)) i;
      member = sym (option_or_none (first_line is_member 3 before)) i;
    })
step_goes_on before FormattedName value n e = λ i. Some (record {
  group = option_map (λ v. str_eq_ignore_ascii_case v (codes "group")) (sym (option_or_none (first_value is_kind before)) i);
  uid = sym (or-false (has is_uid before)) i;
  formatted_name = sym (or-true (has is_formatted_name before)) i;
  member = sym (option_or_none (first_line is_member 3 before)) i;
})
step_goes_on before Member value n e = λ i. Some (record {
  group = option_map (λ v. str_eq_ignore_ascii_case v (codes "group")) (sym (option_or_none (first_value is_kind before)) i);
  uid = sym (or-false (has is_uid before)) i;
  formatted_name = sym (or-false (has is_formatted_name before)) i;
  member = option_or (first_line is_member 3 before) (Some n);
})
step_goes_on before Begin value n e = λ i. Some (record {
  group = option_map (λ v. str_eq_ignore_ascii_case v (codes "group")) (sym (option_or_none (first_value is_kind before)) i);
  uid = sym (or-false (has is_uid before)) i;
  formatted_name = sym (or-false (has is_formatted_name before)) i;
  member = sym (option_or_none (first_line is_member 3 before)) i;
})
step_goes_on before End value n e = λ i. Some (record {
  group = option_map (λ v. str_eq_ignore_ascii_case v (codes "group")) (sym (option_or_none (first_value is_kind before)) i);
  uid = sym (or-false (has is_uid before)) i;
  formatted_name = sym (or-false (has is_formatted_name before)) i;
  member = sym (option_or_none (first_line is_member 3 before)) i;
})
step_goes_on before Other value n e = λ i. Some (record {
  group = option_map (λ v. str_eq_ignore_ascii_case v (codes "group")) (sym (option_or_none (first_value is_kind before)) i);
  uid = sym (or-false (has is_uid before)) i;
  formatted_name = sym (or-false (has is_formatted_name before)) i;
  member = sym (option_or_none (first_line is_member 3 before)) i;
})

-- what is missing at the end
at_end : (before : List (List ℕ)) (n : ℕ) → seen_fault (seen_in before) n ≡ option_or (name_fault n before) (member_fault before)
at_end before n = here (has is_formatted_name before) (first_value is_kind before)
  where
    members : Option CardFault
    members = option_map (λ m. at m MemberWithoutGroup) (first_line is_member 3 before)

    here : (b : Bool) (kind : Option (List ℕ))
        → cond b (cond (is_known_group (option_map (λ v. str_eq_ignore_ascii_case v (codes "group")) kind)) None (option_map (λ m. at m MemberWithoutGroup) (first_line is_member 3 before))) (Some (at n NoFormattedName))
        ≡ option_or (cond b None (Some (at n NoFormattedName))) (cond (str_eq_ignore_ascii_case (unwrap_or kind (codes "individual")) (codes "group")) None (option_map (λ m. at m MemberWithoutGroup) (first_line is_member 3 before)))
    here false kind = refl
    here true None = refl
    here true (Some v) = refl

-- The lines before the end

pub content_nil : (line : List ℕ) (rest : List (List ℕ)) → is_end line ≡ true → before_first is_end (line ∷ rest) ≡ []
content_nil line rest e = ap (λ t. take (cond (not t) (1 + position_or_len is_end rest) 0) (line ∷ rest)) e

pub content_cons : (line : List ℕ) (rest : List (List ℕ)) → is_end line ≡ false → before_first is_end (line ∷ rest) ≡ line ∷ before_first is_end rest
content_cons line rest e =
    ap (λ t. take (cond (not t) (1 + position_or_len is_end rest) 0) (line ∷ rest)) e ∙ ap (λ (k : ℕ). take k (line ∷ rest)) (one_more (position_or_len is_end rest))

pub end_at : (n : ℕ) (line : List ℕ) (rest : List (List ℕ)) → is_end line ≡ true → end_fault n (line ∷ rest) ≡ after_end_fault (n + 1) rest
end_at n line rest e = place (position_or_len is_end (line ∷ rest)) (ap (λ t. cond (not t) (1 + position_or_len is_end rest) 0) e)
  where
    place : (k : ℕ) → k ≡ 0 → cond (nat_lt k (length (line ∷ rest))) (after_end_fault (n + 1) (drop (k + 1) (line ∷ rest))) (Some (at n NoEnd)) ≡ after_end_fault (n + 1) rest
    place k z = ap (λ (j : ℕ). cond (nat_lt j (length (line ∷ rest))) (after_end_fault (n + 1) (drop (j + 1) (line ∷ rest))) (Some (at n NoEnd))) z
        ∙ ap (λ t. cond t (after_end_fault (n + 1) rest) (Some (at n NoEnd))) (some (length rest))
      where
        some : (m : ℕ) → nat_lt 0 (suc m) ≡ true
        some m = grind arith

pub end_later : (n : ℕ) (line : List ℕ) (rest : List (List ℕ)) → is_end line ≡ false → end_fault n (line ∷ rest) ≡ end_fault n rest
end_later n line rest e = place (position_or_len is_end (line ∷ rest)) (ap (λ t. cond (not t) (1 + position_or_len is_end rest) 0) e ∙ one_more (position_or_len is_end rest))
  where
    place : (k : ℕ) → k ≡ suc (position_or_len is_end rest)
        → cond (nat_lt k (length (line ∷ rest))) (after_end_fault (n + 1) (drop (k + 1) (line ∷ rest))) (Some (at n NoEnd))
        ≡ cond (nat_lt (position_or_len is_end rest) (length rest)) (after_end_fault (n + 1) (drop (position_or_len is_end rest + 1) rest)) (Some (at n NoEnd))
    place k s = ap (λ (j : ℕ). cond (nat_lt j (length (line ∷ rest))) (after_end_fault (n + 1) (drop (j + 1) (line ∷ rest))) (Some (at n NoEnd))) s
        ∙ ap (λ t. cond t (after_end_fault (n + 1) (drop (suc (position_or_len is_end rest) + 1) (line ∷ rest))) (Some (at n NoEnd))) (both (position_or_len is_end rest) (length rest))
        ∙ ap (λ (j : ℕ). cond (nat_lt (position_or_len is_end rest) (length rest)) (after_end_fault (n + 1) (drop j (line ∷ rest))) (Some (at n NoEnd))) (moved (position_or_len is_end rest))
      where
        both : (a b : ℕ) → nat_lt (suc a) (suc b) ≡ nat_lt a b
        both a b = grind arith

        moved : (a : ℕ) → suc a + 1 ≡ suc (a + 1)
        moved a = omega arith

-- Together

-- the faults of the lines from number n on, where these content lines come before them
from : List (List ℕ) → ℕ → List (List ℕ) → Option CardFault
from before n rest =
    let content = before_first is_end rest in
    let last = length content + n in
    option_or (line_fault before n content) (option_or (end_fault last rest) (option_or (name_fault last (before ++ content)) (member_fault (before ++ content))))

from_end : (before : List (List ℕ)) (n : ℕ) (line : List ℕ) (rest : List (List ℕ)) → is_end line ≡ true
    → option_or (after_end_fault (n + 1) rest) (seen_fault (seen_in before) n) ≡ from before n (line ∷ rest)
unfolding from
from_end before n line rest e =
    ap (λ o. option_or (after_end_fault (n + 1) rest) o) (at_end before n)
    ∙ sym (ap (λ (content : List (List ℕ)). option_or (line_fault before n content) (option_or (end_fault (length content + n) (line ∷ rest)) (option_or (name_fault (length content + n) (before ++ content)) (member_fault (before ++ content))))) (content_nil line rest e)
    ∙ ap (λ (k : ℕ). option_or (end_fault k (line ∷ rest)) (option_or (name_fault k (before ++ [])) (member_fault (before ++ [])))) (zero-add n)
    ∙ ap (λ o. option_or o (option_or (name_fault n (before ++ [])) (member_fault (before ++ [])))) (end_at n line rest e)
    ∙ ap (λ (b : List (List ℕ)). option_or (after_end_fault (n + 1) rest) (option_or (name_fault n b) (member_fault b))) (append-nil before))

from_more : (before : List (List ℕ)) (n : ℕ) (line : List ℕ) (rest : List (List ℕ)) → is_end line ≡ false
    → from before n (line ∷ rest) ≡ option_or (option_map (at n) (fault_of_content before (content_of line))) (from (before ++ line ∷ []) (n + 1) rest)
unfolding from
from_more before n line rest e =
    let first = option_map (at n) (fault_of_content before (content_of line)) in
    let content = before_first is_end rest in
    ap (λ (c : List (List ℕ)). option_or (line_fault before n c) (option_or (end_fault (length c + n) (line ∷ rest)) (option_or (name_fault (length c + n) (before ++ c)) (member_fault (before ++ c))))) (content_cons line rest e)
    ∙ option_or_assoc first (line_fault (before ++ line ∷ []) (n + 1) content) (option_or (end_fault (length (line ∷ content) + n) (line ∷ rest)) (option_or (name_fault (length (line ∷ content) + n) (before ++ (line ∷ content))) (member_fault (before ++ (line ∷ content)))))
    ∙ ap (λ o. option_or first (option_or (line_fault (before ++ line ∷ []) (n + 1) content) o)) (
    ap (λ o. option_or o (option_or (name_fault (length (line ∷ content) + n) (before ++ (line ∷ content))) (member_fault (before ++ (line ∷ content))))) (end_later (length (line ∷ content) + n) line rest e)
    ∙ ap (λ (k : ℕ). option_or (end_fault k rest) (option_or (name_fault k (before ++ (line ∷ content))) (member_fault (before ++ (line ∷ content))))) (longer (length content) n)
    ∙ ap (λ (b : List (List ℕ)). option_or (end_fault (length content + (n + 1)) rest) (option_or (name_fault (length content + (n + 1)) b) (member_fault b))) (sym (append_assoc before (line ∷ []) content)))
  where
    longer : (m n : ℕ) → suc m + n ≡ m + (n + 1)
    longer m n = omega arith

-- a content line that passes has fields
pub fields_passed : (line : List ℕ) (f : Fields) → content_of line ≡ Some f → fields_of line ≡ Some f
fields_passed line f e = here (list_any is_control line) (fields_of line) e
  where
    kept : (t : Bool) (g : Fields) → cond t (Some g) None ≡ Some f → Some g ≡ Some f
    kept true g h = h
    kept false g h = cc

    here : (t : Bool) (o : Option Fields) → cond t None (Rattle.std.specs.Option.option_and_then with_its_value o) ≡ Some f → o ≡ Some f
    here true o h = cc
    here false None h = cc
    here false (Some g) h = kept (may_have (property_of g.name) g.value) g h

-- a line that isn't the end
line_step : (before : List (List ℕ)) (n : ℕ) (line : List ℕ) (rest : List (List ℕ)) → n ≡ length before + 3
    → (scan (seen_in (before ++ line ∷ [])) (n + 1) rest ≡ from (before ++ line ∷ []) (n + 1) rest)
    → or_go_on n (pass_content (seen_in before) n (content_of line)) (λ next. scan next (n + 1) rest)
    ≡ option_or (option_map (at n) (fault_of_content before (content_of line))) (from (before ++ line ∷ []) (n + 1) rest)
line_step before n line rest e later = here (content_of line) refl
  where
    there : (f : Fields) → fields_of line ≡ Some f → (t : Bool) → repeats (property_of f.name) before ≡ t
        → or_go_on n (ok_or (seen_with (seen_in before) (property_of f.name) f.value n) Twice) (λ next. scan next (n + 1) rest)
        ≡ option_or (option_map (at n) (cond t (Some Twice) None)) (from (before ++ line ∷ []) (n + 1) rest)
    there f is true r = ap (λ o. or_go_on n (ok_or o Twice) (λ next. scan next (n + 1) rest)) (step_repeats before (property_of f.name) f.value n r)
    there f is false r =
        ap (λ o. or_go_on n (ok_or o Twice) (λ next. scan next (n + 1) rest)) (step_goes_on before (property_of f.name) f.value n r)
        ∙ ap (λ seen. scan seen (n + 1) rest) (seen_in_more before line f n e is) ∙ later

    here : (o : Option Fields) → content_of line ≡ o → or_go_on n (pass_content (seen_in before) n o) (λ next. scan next (n + 1) rest)
        ≡ option_or (option_map (at n) (fault_of_content before o)) (from (before ++ line ∷ []) (n + 1) rest)
    here None is = refl
    here (Some f) is = there f (fields_passed line f is) (repeats (property_of f.name) before) refl

scan_is_from : (before : List (List ℕ)) (n : ℕ) (rest : List (List ℕ)) → n ≡ length before + 3 → scan (seen_in before) n rest ≡ from before n rest
unfolding from
scan_is_from before n [] e = ap (λ (k : ℕ). Some (at k NoEnd)) (sym (zero-add n))
scan_is_from before n (line ∷ rest) e = here (is_end line) refl (λ m k. scan_is_from (before ++ line ∷ []) m rest k)
  where
    here : (t : Bool) → is_end line ≡ t → ((m : ℕ) → m ≡ length (before ++ line ∷ []) + 3 → scan (seen_in (before ++ line ∷ [])) m rest ≡ from (before ++ line ∷ []) m rest)
        → cond t (option_or (after_end_fault (n + 1) rest) (seen_fault (seen_in before) n)) (or_go_on n (pass_content (seen_in before) n (content_of line)) (λ next. scan next (n + 1) rest)) ≡ from before n (line ∷ rest)
    here true is later = from_end before n line rest is
    here false is later = line_step before n line rest e (later (n + 1) (omega (arith, length-append before (line ∷ [])))) ∙ sym (from_more before n line rest is)

pub scan_is_content_fault : (rest : List (List ℕ)) → scan (seen_in []) 3 rest ≡ content_fault rest
unfolding from
scan_is_content_fault rest = scan_is_from [] 3 rest refl

-- Up to the end

pub up_to_end_at : (line : List ℕ) (rest : List (List ℕ)) → is_end line ≡ true → up_to_end (line ∷ rest) ≡ line ∷ []
up_to_end_at line rest e = ap (λ t. take (cond (not t) (1 + position_or_len is_end rest) 0 + 1) (line ∷ rest)) e

pub up_to_end_later : (line : List ℕ) (rest : List (List ℕ)) → is_end line ≡ false → up_to_end (line ∷ rest) ≡ line ∷ up_to_end rest
up_to_end_later line rest e =
    ap (λ t. take (cond (not t) (1 + position_or_len is_end rest) 0 + 1) (line ∷ rest)) e ∙ ap (λ (k : ℕ). take k (line ∷ rest)) (more (position_or_len is_end rest))
  where
    more : (n : ℕ) → 1 + n + 1 ≡ suc (n + 1)
    more n = omega arith
