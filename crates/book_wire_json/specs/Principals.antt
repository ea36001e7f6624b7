-- The texts of principals (RFC 3744, section 5.5.1; own profile).
use Rattle.std.specs.Prelude.{◌<◌, ℕ, List, [], ◌∷◌, length, get_or, Option, None, Some}
use Rattle.book_lists_explain.specs.Lines.{Names, IsWho}
use Rattle.book_lists.specs.declared.entries.Who.{Who}

-- the texts name these principals, in order
abbrev pub AllName : List (List ℕ) → List (List ℕ) → Type 0
AllName [] [] = Unit {0}
AllName [] (path ∷ paths) = ⊥
AllName (text ∷ texts) [] = ⊥
AllName (text ∷ texts) (path ∷ paths) = Names text path × AllName texts paths

-- a text names nobody
abbrev pub HasUnnamed : List (List ℕ) → Type 0
HasUnnamed texts = (i : ℕ) × (i < length texts) × ((path : List ℕ) → Names (get_or texts i []) path → ⊥)

-- the principal form that the text is; none where it is none
abbrev pub IsFormIn : List ℕ → Option Who → Type 0
IsFormIn text (Some who) = IsWho text who
IsFormIn text None = (who : Who) → IsWho text who → ⊥
