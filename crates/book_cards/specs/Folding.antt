-- Folded lines (RFC 6350, section 3.2): a long line goes on after a line end and one space or tab. A line may
-- end by a line feed alone, too (own profile).
use Rattle.std.specs.Prelude.{◌≡◌, ◌≢◌, ◌⊎◌, ◌++◌, true, ℕ, Bool, ◌&&◌, ◌||◌, List, [], ◌∷◌, ◌==◌, if◌then◌else◌}

-- a space or a tab
abbrev pub is_blank : ℕ → Bool
is_blank b = b == 32 || b == 9

-- a line end, which is a line feed with or without a carriage return before it, and one blank
abbrev pub IsFold : List ℕ → Type 0
IsFold fold = (b : ℕ) × (is_blank b ≡ true) × ((fold ≡ 13 ∷ 10 ∷ b ∷ []) ⊎ (fold ≡ 10 ∷ b ∷ []))

abbrev pub BeginsNoFold : List ℕ → Type 0
BeginsNoFold text = (fold rest : List ℕ) → IsFold fold → text ≢ fold ++ rest

-- a text and its unfolded text: a fold is left out, and any byte at which none begins is kept
pub data Unfolds : List ℕ → List ℕ → Type 0 where
  ended : Unfolds [] []
  left_out : (fold text whole : List ℕ) → IsFold fold → Unfolds text whole → Unfolds (fold ++ text) whole
  kept : (b : ℕ) (text whole : List ℕ) → BeginsNoFold (b ∷ text) → Unfolds text whole → Unfolds (b ∷ text) (b ∷ whole)

-- The same as a function, which the law `unfolded_is_what_unfolds` ties to the relation

-- a line feed and a blank; a carriage return, a line feed and a blank
abbrev pub is_fold : ℕ → ℕ → Bool
is_fold a b = a == 10 && is_blank b

abbrev pub is_crlf_fold : ℕ → ℕ → ℕ → Bool
is_crlf_fold a b c = a == 13 && is_fold b c

-- the text without its folds
abbrev pub unfolded : List ℕ → List ℕ
unfolded [] = []
unfolded (a ∷ []) = a ∷ []
unfolded (a ∷ b ∷ []) = if is_fold a b then [] else a ∷ unfolded (b ∷ [])
unfolded (a ∷ b ∷ c ∷ rest) =
    if is_crlf_fold a b c then unfolded rest
    else if is_fold a b then unfolded (c ∷ rest)
    else a ∷ unfolded (b ∷ c ∷ rest)
