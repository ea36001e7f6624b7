-- Times in UTC to milliseconds (RFC 3339, section 5.6; one form of those that it allows).
use Rattle.std.specs.Prelude.{◌≡◌, ℕ, ◌<◌, Bool, ◌&&◌, List, codes, length, slice_index, nat_eq, nat_le, IsTrue, cond}
use Rattle.std.specs.declared.cmp.Ordering.{Ordering}
use Rattle.std.specs.Ordering.{nat_cmp}
use Rattle.std.specs.Cmp.Lexicographic.{slice_cmp}

-- the form of a time, with 0 for each digit
abbrev pub time_form : List ℕ
time_form = codes "0000-00-00T00:00:00.000Z"

-- a digit stands where the form has one, and elsewhere the same byte
abbrev pub fits : ℕ → ℕ → Bool
fits form byte = cond (nat_eq form 48) (nat_le 48 byte && nat_le byte 57) (nat_eq byte form)

-- a text of this form
pub record IsTime (text : List ℕ) : Type 0 where
  pub long : length text ≡ length time_form
  pub each : (i : ℕ) → i < length time_form → IsTrue (fits (slice_index time_form i) (slice_index text i))

-- the order of instants is that of the bytes of their texts
abbrev pub time_cmp : List ℕ → List ℕ → Ordering
time_cmp = slice_cmp nat_cmp
