-- Lines after a sign, and parts of a text in turn.
use Rattle.book_questions_changes.proofs.Common.{◌≡◌, ◌++◌, ◌∷◌, ◌∙◌, [], ℕ, List, ap}
use Rattle.std.proofs.Common.{append_assoc}
use Rattle.std.proofs.lemmas.List.{append-nil}
use Rattle.book_questions_changes.specs.Facts.{signed}

pub one_line : (sign line : List ℕ) → signed sign (line ∷ []) ≡ sign ++ line
one_line sign line = append-nil (sign ++ line)

-- what is after two parts, and after four
pub two_parts : (t0 t1 t2 a b : List ℕ) → t1 ≡ t0 ++ a → t2 ≡ t1 ++ b → t2 ≡ t0 ++ (a ++ b)
two_parts t0 t1 t2 a b p q = q ∙ ap (λ (t : List ℕ). t ++ b) p ∙ append_assoc t0 a b

pub four_parts : (t0 t1 t2 t3 t4 a b c d : List ℕ) → t0 ≡ [] → t1 ≡ t0 ++ a → t2 ≡ t1 ++ b → t3 ≡ t2 ++ c → t4 ≡ t3 ++ d → t4 ≡ a ++ (b ++ (c ++ d))
four_parts t0 t1 t2 t3 t4 a b c d e p q r s =
    s ∙ ap (λ (t : List ℕ). t ++ d) (two_parts t1 t2 t3 b c q r)
    ∙ append_assoc t1 (b ++ c) d ∙ (λ i. (p ∙ ap (λ (t : List ℕ). t ++ a) e) i ++ append_assoc b c d i)
