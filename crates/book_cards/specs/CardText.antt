-- What is wrong with a text that is no card, and what a card says. The law `faultless_texts_are_the_cards`
-- ties the faults to `IsCard` in Valid.antt. Which fault of several is told is own profile.
use Rattle.std.specs.Prelude.{ℕ, ◌+◌, Bool, true, false, List, [], ◌∷◌, ◌++◌, length, take, drop, nat_lt, if◌then◌else◌, Option, Some, None, unwrap_or, codes}
use Rattle.std.specs.Option.{option_map, option_or}
use Rattle.std.specs.List.{before_first, after_first, position_or_len, filter_map}
use Rattle.std.specs.Str.{str_eq_ignore_ascii_case, bytes_eq}
use Rattle.std.specs.Str.Lines.{lines}
use Rattle.book_cards.specs.declared.property.Property.{Property}
use Rattle.book_cards.specs.declared.property.Property.TheVariants.{Version, Uid, Kind}
use Rattle.book_cards.specs.declared.fault.CardFault.{CardFault}
use Rattle.book_cards.specs.declared.fault.CardFaultKind.{CardFaultKind}
use Rattle.book_cards.specs.declared.fault.CardFaultKind.TheVariants.{NoBegin, NoVersion, OtherVersion, BadLine, NoFormattedName, Twice, MemberWithoutGroup, NoEnd, AfterEnd, TooLong, Memory}
use Rattle.book_cards.specs.Folding.{unfolded}
use Rattle.book_cards.specs.ContentLine.{Fields}
use Rattle.book_cards.specs.Reading.{is_empty, fields_of}
use Rattle.book_cards.specs.Properties.{property_of, is_formatted_name, is_uid, is_kind, is_member, has, first_line, first_value, values, kind_of, is_group}
use Rattle.book_cards.specs.Content.{content_of}
use Rattle.book_limits.specs.declared.TheConstants.{MAX_CARD_BYTES}

-- Faults, in the order in which they are looked for

abbrev pub at : ℕ → CardFaultKind → CardFault
at n kind = record { kind = kind; line = n }

abbrev pub out_of_memory : CardFault
out_of_memory = record { kind = Memory; line = 0 }

-- whether a property that may stand once has stood, after these content lines; VERSION has, at line 2
abbrev pub repeats : Property → List (List ℕ) → Bool
repeats Version before = true
repeats Kind before = has is_kind before
repeats Uid before = has is_uid before
repeats _ before = false

-- the fault of a line, by its fields, after these content lines
abbrev pub fault_of_content : List (List ℕ) → Option Fields → Option CardFaultKind
fault_of_content before None = Some BadLine
fault_of_content before (Some fields) = if repeats (property_of fields.name) before then Some Twice else None

-- the fault of the first content line that has one; the first of these lines has the number n
abbrev pub line_fault : List (List ℕ) → ℕ → List (List ℕ) → Option CardFault
line_fault before n [] = None
line_fault before n (line ∷ rest) =
    option_or (option_map (at n) (fault_of_content before (content_of line)))
    (line_fault (before ++ line ∷ []) (n + 1) rest)

abbrev pub is_end : List ℕ → Bool
is_end line = str_eq_ignore_ascii_case line (codes "END:VCARD")

-- the first line after the end that isn't empty
abbrev pub after_end_fault : ℕ → List (List ℕ) → Option CardFault
after_end_fault n [] = None
after_end_fault n (line ∷ rest) = if is_empty line then after_end_fault (n + 1) rest else Some (at n AfterEnd)

-- there is no end, or something after it; the end, or else the end of the text, is at line n
abbrev pub end_fault : ℕ → List (List ℕ) → Option CardFault
end_fault n rest =
    if nat_lt (position_or_len is_end rest) (length rest) then after_end_fault (n + 1) (after_first is_end rest)
    else Some (at n NoEnd)

-- there is no FN; the end is at line n
abbrev pub name_fault : ℕ → List (List ℕ) → Option CardFault
name_fault n content = if has is_formatted_name content then None else Some (at n NoFormattedName)

-- there is a MEMBER in a card that is no group
abbrev pub member_fault : List (List ℕ) → Option CardFault
member_fault content =
    if is_group content then None
    else option_map (λ n. at n MemberWithoutGroup) (first_line is_member 3 content)

-- of the lines after the version
abbrev pub content_fault : List (List ℕ) → Option CardFault
content_fault rest =
    let content = before_first is_end rest in
    let last = length content + 3 in
    option_or (line_fault [] 3 content)
    (option_or (end_fault last rest) (option_or (name_fault last content) (member_fault content)))

-- of what follows `VERSION:`
abbrev pub number_fault : List ℕ → Option CardFaultKind
number_fault number = if bytes_eq number (codes "4.0") then None else Some OtherVersion

-- of line 2
abbrev pub version_fault : List ℕ → Option CardFaultKind
version_fault line =
    if str_eq_ignore_ascii_case (take 8 line) (codes "VERSION:") then number_fault (drop 8 line) else Some NoVersion

-- of the lines after the first
abbrev pub fault_after_begin : List (List ℕ) → Option CardFault
fault_after_begin [] = Some (at 2 NoEnd)
fault_after_begin (version ∷ rest) = option_or (option_map (at 2) (version_fault version)) (content_fault rest)

-- of all lines
abbrev pub lines_fault : List (List ℕ) → Option CardFault
lines_fault [] = Some (at 1 NoBegin)
lines_fault (begin ∷ rest) =
    if str_eq_ignore_ascii_case begin (codes "BEGIN:VCARD") then fault_after_begin rest else Some (at 1 NoBegin)

-- the one fault of a text, and none where it is a card
abbrev pub card_fault : List ℕ → Option CardFault
card_fault text = if nat_lt MAX_CARD_BYTES (length text) then Some (at 0 TooLong) else lines_fault (lines (unfolded text))

-- What a card says, by its unfolded text: values as written

-- the lines up to the end
abbrev pub up_to_end : List (List ℕ) → List (List ℕ)
up_to_end all = take (position_or_len is_end all + 1) all

abbrev pub card_lines : List ℕ → List (List ℕ)
card_lines text = up_to_end (lines text)

abbrev pub uid_in : List ℕ → Option (List ℕ)
uid_in text = first_value is_uid (lines text)

abbrev pub kind_in : List ℕ → List ℕ
kind_in text = kind_of (lines text)

-- the first FN
abbrev pub formatted_in : List ℕ → List ℕ
formatted_in text = unwrap_or (first_value is_formatted_name (lines text)) []

abbrev pub members_in : List ℕ → List (List ℕ)
members_in text = values is_member (lines text)

-- the fields of the lines that have fields
abbrev pub fields_in : List ℕ → List Fields
fields_in text = filter_map fields_of (lines text)
