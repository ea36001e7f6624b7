-- What a reader keeps of the content lines that it has passed. Only private functions cite it; that the scan
-- finds the fault of CardText.antt is proved.
use Rattle.std.specs.Prelude.{ℕ, ◌+◌, Bool, true, false, List, [], ◌∷◌, if◌then◌else◌, Option, Some, None, codes, Result, Ok, Err}
use Rattle.std.specs.Option.{option_map, option_or, is_some, ok_or}
use Rattle.std.specs.Str.{str_eq_ignore_ascii_case}
use Rattle.book_cards.specs.declared.property.Property.{Property}
use Rattle.book_cards.specs.declared.property.Property.TheVariants.{Version, FormattedName, Uid, Kind, Member}
use Rattle.book_cards.specs.declared.fault.CardFault.{CardFault}
use Rattle.book_cards.specs.declared.fault.CardFaultKind.{CardFaultKind}
use Rattle.book_cards.specs.declared.fault.CardFaultKind.TheVariants.{BadLine, NoFormattedName, Twice, MemberWithoutGroup, NoEnd}
use Rattle.book_cards.specs.declared.check.Seen.{Seen}
use Rattle.book_cards.specs.ContentLine.{Fields}
use Rattle.book_cards.specs.Properties.{property_of, has, first_value, first_line, is_formatted_name, is_uid, is_kind, is_member}
use Rattle.book_cards.specs.Content.{content_of}
use Rattle.book_cards.specs.CardText.{at, is_end, after_end_fault}

-- after these lines
abbrev pub seen_in : List (List ℕ) → Seen
seen_in lines = record {
  group = option_map (λ value. str_eq_ignore_ascii_case value (codes "group")) (first_value is_kind lines);
  uid = has is_uid lines;
  formatted_name = has is_formatted_name lines;
  member = first_line is_member 3 lines;
}

-- after one more property, unless it may not stand again
abbrev pub seen_with : Seen → Property → List ℕ → ℕ → Option Seen
seen_with seen Version value n = None
seen_with seen Kind value n =
    if is_some seen.group then None
    else Some (record seen { group = Some (str_eq_ignore_ascii_case value (codes "group")) })
seen_with seen Uid value n = if seen.uid then None else Some (record seen { uid = true })
seen_with seen FormattedName value n = Some (record seen { formatted_name = true })
seen_with seen Member value n = Some (record seen { member = option_or seen.member (Some n) })
seen_with seen _ value n = Some seen

abbrev pub is_known_group : Option Bool → Bool
is_known_group None = false
is_known_group (Some group) = group

-- the first MEMBER is at line m, and the card may be no group
abbrev pub seen_member_fault : Option Bool → Option ℕ → Option CardFault
seen_member_fault group member = if is_known_group group then None else option_map (λ m. at m MemberWithoutGroup) member

-- at the end, at line n
abbrev pub seen_fault : Seen → ℕ → Option CardFault
seen_fault seen n = if seen.formatted_name then seen_member_fault seen.group seen.member else Some (at n NoFormattedName)

abbrev pub pass_content : Seen → ℕ → Option Fields → Result Seen CardFaultKind
pass_content seen n None = Err BadLine
pass_content seen n (Some fields) = ok_or (seen_with seen (property_of fields.name) fields.value n) Twice

abbrev pub or_go_on : ℕ → Result Seen CardFaultKind → (Seen → Option CardFault) → Option CardFault
or_go_on n (Err kind) go_on = Some (at n kind)
or_go_on n (Ok seen) go_on = go_on seen

-- the first fault of the lines from number n on
abbrev pub scan : Seen → ℕ → List (List ℕ) → Option CardFault
scan seen n [] = Some (at n NoEnd)
scan seen n (line ∷ rest) =
    if is_end line then option_or (after_end_fault (n + 1) rest) (seen_fault seen n)
    else or_go_on n (pass_content seen n (content_of line)) (λ next. scan next (n + 1) rest)
