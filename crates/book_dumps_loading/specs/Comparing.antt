-- What a writer was given that compares it with a text.
use Rattle.std.specs.Prelude.{ℕ, List, ◌++◌, take}

-- so many bytes of the text, and what is other
abbrev pub given : List ℕ → ℕ → List ℕ → List ℕ
given wanted equal other = take equal wanted ++ other
