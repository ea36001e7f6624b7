-- Finite maps from names.
use Rattle.std.specs.Prelude.{ℕ, List, Option, Some, None}
use Rattle.std.specs.FinMap.{FinMap, get, insert}
use Rattle.book_lists.specs.Names.{name_cmp}

-- a finite map from names, in byte order
abbrev pub NamesTo : Type 0 → Type 0
NamesTo V = FinMap name_cmp V

-- the map with the value at a name changed; the same map where there is none
abbrev pub changed_if : {V : Type 0} → (V → V) → NamesTo V → List ℕ → Option V → NamesTo V
changed_if change m name None = m
changed_if change m name (Some old) = insert m name (change old)

abbrev pub changed_at : {V : Type 0} → (V → V) → NamesTo V → List ℕ → NamesTo V
changed_at change m name = changed_if change m name (get m name)
