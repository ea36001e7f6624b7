-- Escapes in a value (RFC 6350, section 3.4).
use Rattle.std.specs.Prelude.{ℕ, ◌||◌, List, [], ◌∷◌, ◌==◌, if◌then◌else◌, Option, Some, None}

-- what a backslash before this byte stands for: a backslash, a comma or a semicolon itself, and a line feed
-- for n and N
abbrev pub escaped : ℕ → Option ℕ
escaped b = if b == 92 || b == 44 || b == 59 then Some b else if b == 110 || b == 78 then Some 10 else None

abbrev pub or_kept : Option ℕ → List ℕ → List ℕ → List ℕ
or_kept None kept rest = 92 ∷ kept
or_kept (Some c) kept rest = c ∷ rest

-- the text with its escapes replaced; any other backslash stays with what follows (own profile)
abbrev pub unescaped : List ℕ → List ℕ
unescaped [] = []
unescaped (a ∷ []) = a ∷ []
unescaped (a ∷ b ∷ rest) =
    if a == 92 then or_kept (escaped b) (unescaped (b ∷ rest)) (unescaped rest) else a ∷ unescaped (b ∷ rest)
