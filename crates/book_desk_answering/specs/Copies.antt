-- What is told of a copy of the Office that is served (own profile).
use Rattle.std.specs.Prelude.{ℕ, Bool, List, Option}

-- What was told of a copy at a path, to its end or not, before it and after it, and the status.
abbrev pub Copied : Type 1
Copied = List ℕ → Bool → Option (List ℕ) → Option (List ℕ) → ℕ → Type 0
