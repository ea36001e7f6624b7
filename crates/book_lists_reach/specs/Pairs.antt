-- Pairs of groups and members as rows of bits: a row for each principal, by its place in a list of them.
use Rattle.std.specs.Prelude.{ℕ, suc, Bool, false, cond, not, ◌&&◌, Option, None, Some, List, [], ◌∷◌, ◌++◌, map, slice_index_or}
use Rattle.book_lists.specs.Memberships.{Memberships, set_of}
use Rattle.book_lists.specs.declared.memberships.Membership.{Membership}
use Rattle.book_lists_reach.specs.Bits.{bit}

-- the principals at those places that pass the test
abbrev pub chosen : List (List ℕ) → (ℕ → Bool) → List (List ℕ)
chosen [] test = []
chosen (p ∷ ps) test = cond (test 0) (p ∷ chosen ps (λ j. test (suc j))) (chosen ps (λ j. test (suc j)))

-- the pairs of each group with its members: those that pass the test at the places of both
abbrev pub pairs_by : List (List ℕ) → List (List ℕ) → (ℕ → ℕ → Bool) → List Membership
pairs_by principals [] test = []
pairs_by principals (g ∷ gs) test = map (λ p. record { group = g; member = p }) (chosen principals (test 0)) ++ pairs_by principals gs (λ i. test (suc i))

-- whether the row at the one place has the other
abbrev pub has_bit : List (List ℕ) → ℕ → ℕ → Bool
has_bit rows i j = bit (slice_index_or rows i []) j

-- the pairs that the rows have
abbrev pub pairs_in_rows : List (List ℕ) → List (List ℕ) → Memberships
pairs_in_rows principals rows = set_of (pairs_by principals principals (has_bit rows))

-- whether the row at the one place has the other, where both are places
abbrev pub bit_between : List (List ℕ) → Option ℕ → Option ℕ → Bool
bit_between rows None j = false
bit_between rows (Some i) None = false
bit_between rows (Some i) (Some j) = has_bit rows i j

-- whether the rows have the bit, and others have none at the places there
abbrev pub bit_alone : List (List ℕ) → List (List ℕ) → List (Option ℕ) → ℕ → ℕ → Bool
bit_alone rows others places i j = has_bit rows i j && not (bit_between others (slice_index_or places i None) (slice_index_or places j None))

-- the pairs of one group that pass
abbrev pub row_by : List (List ℕ) → List ℕ → (ℕ → Bool) → List Membership
row_by principals g test = map (λ p. record { group = g; member = p }) (chosen principals test)
