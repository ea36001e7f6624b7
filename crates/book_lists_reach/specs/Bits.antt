-- Sets of numbers, a bit for each.
use Rattle.std.specs.Prelude.{ℕ, ◌/◌, ◌%◌, Bool, List, slice_index, nat_eq}
use Rattle.std.specs.Int.{bit_at}

-- whether the number is in the set: 64 numbers in each word, from its lowest bit on
abbrev pub bit : List ℕ → ℕ → Bool
bit words j = nat_eq (bit_at (slice_index words (j / 64)) (j % 64)) 1
