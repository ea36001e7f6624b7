-- The members of a list with commas (RFC 9110, section 5.6.1).
use Rattle.std.specs.Prelude.{ℕ, Bool, ◌==◌, ◌-◌, if◌then◌else◌, List, [], ◌∷◌, map, length, take, drop, codes}
use Rattle.std.specs.List.{list_any, prefix_len, suffix_len}
use Rattle.std.specs.Char.{is_ascii_whitespace, to_ascii_lowercase}
use Rattle.std.specs.Str.{bytes_eq}

-- equal but for ASCII case
abbrev pub same_name : List ℕ → List ℕ → Bool
same_name a b = bytes_eq (map to_ascii_lowercase a) (map to_ascii_lowercase b)

abbrev pub with_first : ℕ → List (List ℕ) → List (List ℕ)
with_first b [] = (b ∷ []) ∷ []
with_first b (m ∷ ms) = (b ∷ m) ∷ ms

-- what stands before, between and after the commas
abbrev pub members_of : List ℕ → List (List ℕ)
members_of [] = [] ∷ []
members_of (b ∷ bs) = if b == 44 then [] ∷ members_of bs else with_first b (members_of bs)

-- without the blanks at the front
abbrev pub begun : List ℕ → List ℕ
begun text = drop (prefix_len is_ascii_whitespace text) text

-- without the blanks round it
abbrev pub trimmed : List ℕ → List ℕ
trimmed text = take (length (begun text) - suffix_len is_ascii_whitespace (begun text)) (begun text)

abbrev pub is_close : List ℕ → Bool
is_close text = same_name (trimmed text) (codes "close")

-- a member is `close`, in any case
abbrev pub has_close : List ℕ → Bool
has_close value = list_any is_close (members_of value)
