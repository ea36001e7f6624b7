-- How many denials there are, and when the first and the last was.
use Rattle.std.specs.Prelude.{ℕ, ◌+◌, ◌-◌, ◌^◌, min, List, [], ◌∷◌, length, Option, Some, None, if◌then◌else◌}
use Rattle.std.specs.Ordering.{is_lt}
use Rattle.std.specs.FinMap as map
use Rattle.book_office_values.specs.Names.{NamesTo}
use Rattle.book_log_lines.specs.Times.{time_cmp}
use Rattle.book_log_denials.specs.declared.tallies.Tally.{Tally}

abbrev pub earlier : List ℕ → List ℕ → List ℕ
earlier t u = if is_lt (time_cmp t u) then t else u

abbrev pub later : List ℕ → List ℕ → List ℕ
later t u = if is_lt (time_cmp u t) then t else u

-- the earliest of a time and others, and the latest
abbrev pub earliest : List ℕ → List (List ℕ) → List ℕ
earliest t [] = t
earliest t (u ∷ us) = earliest (earlier u t) us

abbrev pub latest : List ℕ → List (List ℕ) → List ℕ
latest t [] = t
latest t (u ∷ us) = latest (later u t) us

-- a count, which stays at the last number of 64 bits
abbrev pub counted : ℕ → ℕ
counted n = min n (2 ^ 64 - 1)

-- what is told of denials with these times; nothing where there are none
abbrev pub tally_of : List (List ℕ) → Option Tally
tally_of [] = None
tally_of (t ∷ ts) = Some (record { count = counted (length (t ∷ ts)); first = earliest t ts; last = latest t ts })

-- the same, where there is one more
abbrev pub more : List ℕ → Option Tally → Tally
more t None = record { count = 1; first = t; last = t }
more t (Some y) = record { count = counted (y.count + 1); first = earlier t y.first; last = later t y.last }

-- the groups with one denial more, if there is one: its group and its time
abbrev pub with_told : NamesTo Tally → Option (List ℕ × List ℕ) → NamesTo Tally
with_told m None = m
with_told m (Some d) = map.insert m d.0 (more d.1 (map.get m d.0))
