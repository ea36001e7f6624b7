-- The properties that the rules of a card name (RFC 6350, section 6), and where they stand in a list of lines.
use Rattle.std.specs.Prelude.{ℕ, ◌+◌, Bool, nat_eq, List, [], ◌∷◌, if◌then◌else◌, Option, Some, None, unwrap_or, codes}
use Rattle.std.specs.Option.{option_map_or, option_or}
use Rattle.std.specs.List.{list_any, filter_map}
use Rattle.std.specs.Str.{str_eq_ignore_ascii_case}
use Rattle.book_cards.specs.declared.property.Property.{Property}
use Rattle.book_cards.specs.declared.property.Property.TheVariants.{Begin, End, Version, FormattedName, Uid, Kind, Member, Other}
use Rattle.book_cards.specs.ContentLine.{Fields}
use Rattle.book_cards.specs.Reading.{fields_of}

-- names are compared without the case of ASCII letters (RFC 6350, section 3.3)
abbrev pub property_of : List ℕ → Property
property_of name =
    if str_eq_ignore_ascii_case name (codes "BEGIN") then Begin
    else if str_eq_ignore_ascii_case name (codes "END") then End
    else if str_eq_ignore_ascii_case name (codes "VERSION") then Version
    else if str_eq_ignore_ascii_case name (codes "FN") then FormattedName
    else if str_eq_ignore_ascii_case name (codes "UID") then Uid
    else if str_eq_ignore_ascii_case name (codes "KIND") then Kind
    else if str_eq_ignore_ascii_case name (codes "MEMBER") then Member
    else Other

-- the properties by number
abbrev pub property_number : Property → ℕ
property_number Begin = 0
property_number End = 1
property_number Version = 2
property_number FormattedName = 3
property_number Uid = 4
property_number Kind = 5
property_number Member = 6
property_number Other = 7

-- whether a line has the property that is looked for
abbrev pub is_property : Property → Property → Bool
is_property wanted found = nat_eq (property_number found) (property_number wanted)

abbrev pub is_version : Property → Bool
is_version = is_property Version

abbrev pub is_formatted_name : Property → Bool
is_formatted_name = is_property FormattedName

abbrev pub is_uid : Property → Bool
is_uid = is_property Uid

abbrev pub is_kind : Property → Bool
is_kind = is_property Kind

abbrev pub is_member : Property → Bool
is_member = is_property Member

-- the property of a line
abbrev pub property_at : List ℕ → Property
property_at line = option_map_or (λ (f : Fields). property_of f.name) (fields_of line) Other

-- some line has the property
abbrev pub has : (Property → Bool) → List (List ℕ) → Bool
has p lines = list_any (λ line. p (property_at line)) lines

-- how many lines have it
abbrev pub count_of : (Property → Bool) → List (List ℕ) → ℕ
count_of p [] = 0
count_of p (line ∷ rest) = (if p (property_at line) then 1 else 0) + count_of p rest

-- the number of the first line that has it, where the first of these lines has the number n
abbrev pub first_line : (Property → Bool) → ℕ → List (List ℕ) → Option ℕ
first_line p n [] = None
first_line p n (line ∷ rest) = if p (property_at line) then Some n else first_line p (n + 1) rest

-- the value of a line, where it has the property
abbrev pub value_if : (Property → Bool) → Option Fields → Option (List ℕ)
value_if p None = None
value_if p (Some f) = if p (property_of f.name) then Some f.value else None

-- the value of the first line that has the property, and the values of all that have it
abbrev pub first_value : (Property → Bool) → List (List ℕ) → Option (List ℕ)
first_value p [] = None
first_value p (line ∷ rest) = option_or (value_if p (fields_of line)) (first_value p rest)

abbrev pub values : (Property → Bool) → List (List ℕ) → List (List ℕ)
values p lines = filter_map (λ line. value_if p (fields_of line)) lines

-- the kind of a card, which is an individual where no line says another (RFC 6350, section 6.1.4)
abbrev pub kind_of : List (List ℕ) → List ℕ
kind_of lines = unwrap_or (first_value is_kind lines) (codes "individual")

abbrev pub is_group : List (List ℕ) → Bool
is_group lines = str_eq_ignore_ascii_case (kind_of lines) (codes "group")
