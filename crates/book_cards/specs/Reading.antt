-- The fields of a content line, found from left to right. The law `fields_are_of_the_grammar` says that they
-- are those of the grammar in ContentLine.antt, which alone a reader must believe.
use Rattle.std.specs.Prelude.{ℕ, ◌+◌, Bool, true, false, not, ◌&&◌, List, [], ◌∷◌, length, take, drop, slice_index, ◌==◌, if◌then◌else◌, Option, Some, None}
use Rattle.std.specs.Option.{option_map, option_and_then}
use Rattle.std.specs.List.{position_or_len}
use Rattle.book_cards.specs.declared.line.Position.{Position}
use Rattle.book_cards.specs.declared.line.Position.TheVariants.{Start, NameStart, Name, ValueStart, Bare, Quoted, AfterQuote}
use Rattle.book_cards.specs.ContentLine.{Fields, is_name_byte}

abbrev pub is_empty : List ℕ → Bool
is_empty text = length text == 0

-- how many letters, digits and hyphens stand at the front, these, and what follows them
abbrev pub name_length : List ℕ → ℕ
name_length text = position_or_len (λ b. not (is_name_byte b)) text

abbrev pub name_at : List ℕ → List ℕ
name_at text = take (name_length text) text

abbrev pub after_name : List ℕ → List ℕ
after_name text = drop (name_length text) text

-- whether a colon here ends the parameters
abbrev pub may_end : Position → Bool
may_end Start = true
may_end NameStart = false
may_end Name = false
may_end ValueStart = true
may_end Bare = true
may_end Quoted = false
may_end AfterQuote = true

abbrev pub after_value : ℕ → Option Position → Option Position
after_value b other = if b == 44 then Some ValueStart else if b == 59 then Some NameStart else other

-- where a byte leads, if it may stand there
abbrev pub next : Position → ℕ → Option Position
next Start b = if b == 59 then Some NameStart else None
next NameStart b = if is_name_byte b then Some Name else None
next Name b = if is_name_byte b then Some Name else if b == 61 then Some ValueStart else None
next ValueStart b = if b == 34 then Some Quoted else after_value b (Some Bare)
next Bare b = if b == 34 then None else after_value b (Some Bare)
next Quoted b = if b == 34 then Some AfterQuote else Some Quoted
next AfterQuote b = after_value b None

-- the index of the colon that ends the parameters
abbrev pub colon_from : Position → List ℕ → Option ℕ
colon_from position [] = None
colon_from position (b ∷ bs) =
    if b == 58 && may_end position then Some 0
    else option_and_then (λ q. option_map (λ n. n + 1) (colon_from q bs)) (next position b)

abbrev pub with_value : Option (List ℕ) → List ℕ → List ℕ → Option ℕ → Option Fields
with_value group name rest None = None
with_value group name rest (Some n) =
    Some (record { group = group; name = name; params = take n rest; value = drop (n + 1) rest })

-- the fields of a line that begins with this group and this name, and goes on with this rest
abbrev pub fields_with : Option (List ℕ) → List ℕ → List ℕ → Option Fields
fields_with group name rest = if is_empty name then None else with_value group name rest (colon_from Start rest)

abbrev pub grouped : List ℕ → List ℕ → Option Fields
grouped group rest = if is_empty group then None else fields_with (Some group) (name_at rest) (after_name rest)

-- the fields of a content line, and none of any other text
abbrev pub fields_of : List ℕ → Option Fields
fields_of line =
    if slice_index (after_name line) 0 == 46 then grouped (name_at line) (drop 1 (after_name line))
    else fields_with None (name_at line) (after_name line)
