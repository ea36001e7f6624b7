-- What may stand between the version and the end of a card (RFC 6350, sections 3.3 and 6).
use Rattle.std.specs.Prelude.{ℕ, Bool, true, false, not, ◌&&◌, ◌||◌, List, slice_index, nat_lt, ◌==◌, if◌then◌else◌, Option, Some, None}
use Rattle.std.specs.Option.{option_and_then}
use Rattle.std.specs.Char.{is_ascii_alphanumeric, is_ascii_alphabetic}
use Rattle.std.specs.List.{list_all, list_any, before_first, after_first}
use Rattle.book_cards.specs.declared.property.Property.{Property}
use Rattle.book_cards.specs.declared.property.Property.TheVariants.{Begin, End, Kind, Member}
use Rattle.book_cards.specs.Folding.{is_blank}
use Rattle.book_cards.specs.ContentLine.{Fields, is_name_byte}
use Rattle.book_cards.specs.Reading.{is_empty, fields_of}
use Rattle.book_cards.specs.Properties.{property_of}

-- a control character below the space, other than a tab, or the delete character
abbrev pub is_control : ℕ → Bool
is_control b = nat_lt b 32 && not (b == 9) || b == 127

-- letters, digits and hyphens, at least one
abbrev pub is_kind_value : List ℕ → Bool
is_kind_value value = not (is_empty value) && list_all is_name_byte value

-- a letter, a digit, `+`, `-` or `.`
abbrev pub is_scheme_byte : ℕ → Bool
is_scheme_byte b = is_ascii_alphanumeric b || b == 43 || b == 45 || b == 46

abbrev pub is_scheme : List ℕ → Bool
is_scheme text = is_ascii_alphabetic (slice_index text 0) && list_all is_scheme_byte text

-- a scheme, which begins with a letter, a colon, and something without blanks
abbrev pub is_uri : List ℕ → Bool
is_uri value =
    let rest = after_first (λ b. b == 58) value in
    is_scheme (before_first (λ b. b == 58) value) && not (is_empty rest) && not (list_any is_blank rest)

-- whether a property may have this value: BEGIN and END may not stand here at all
abbrev pub may_have : Property → List ℕ → Bool
may_have Begin value = false
may_have End value = false
may_have Kind value = is_kind_value value
may_have Member value = is_uri value
may_have _ value = true

abbrev pub with_its_value : Fields → Option Fields
with_its_value fields = if may_have (property_of fields.name) fields.value then Some fields else None

-- the fields of a line that may stand here, and none of any other
abbrev pub content_of : List ℕ → Option Fields
content_of line = if list_any is_control line then None else option_and_then with_its_value (fields_of line)
