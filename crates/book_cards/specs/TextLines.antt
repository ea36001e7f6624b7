-- The lines of an unfolded text (RFC 6350, section 3.2). That a line feed alone ends a line, too, and that
-- the last line end may be absent, are own profile. Contracts cite std's function `lines`; the law
-- `lines_make_up_the_text` says that it gives the lines of this relation.
use Rattle.std.specs.Prelude.{◌≡◌, ◌≢◌, ℕ, ◌<◌, false, List, [], ◌∷◌, ◌++◌, length, ◌==◌}
use Rattle.std.specs.List.{AllByRecursion}

abbrev pub HasNoLineFeed : List ℕ → Type 0
HasNoLineFeed line = AllByRecursion (λ b. b == 10 ≡ false) line

abbrev pub EndsInNoReturn : List ℕ → Type 0
EndsInNoReturn line = (front : List ℕ) → line ≢ front ++ 13 ∷ []

-- the lines, each with its line end, make up the text: a line end is a line feed, with the carriage return
-- before it if there is one, and a last line that isn't empty may lack it
pub data MakeUp : List (List ℕ) → List ℕ → Type 0 where
  nothing : MakeUp [] []
  last : (line : List ℕ) → 0 < length line → HasNoLineFeed line → MakeUp (line ∷ []) line
  by_feed : (line : List ℕ) (later : List (List ℕ)) (rest : List ℕ) → HasNoLineFeed line → EndsInNoReturn line
      → MakeUp later rest → MakeUp (line ∷ later) (line ++ 10 ∷ rest)
  by_both : (line : List ℕ) (later : List (List ℕ)) (rest : List ℕ) → HasNoLineFeed line
      → MakeUp later rest → MakeUp (line ∷ later) (line ++ 13 ∷ 10 ∷ rest)
