-- What a text tells after pieces were added at its end, one after the other.
use Rattle.std.proofs.Common.{◌≡◌, ◌++◌, ℕ, List, Ok, Err, Result, ◌∙◌, append_assoc}
use Rattle.std.specs.Prelude.{OnOk, if◌then◌else◌}
use Rattle.std.specs.Result.{is_ok}

-- what the last piece makes of the text is the whole, or memory was refused
pub pushed : {E : Type 0} (r : Result (Unit {0}) E) (new before last whole : List ℕ) → new ≡ (if is_ok r then before ++ last else before)
    → before ++ last ≡ whole → OnOk r (new ≡ whole)
pushed (Ok u) new before last whole is same = is ∙ same
pushed (Err e) new before last whole is same = tt

-- seven pieces are one
pub seven : (s a b c d e f g : List ℕ) → ((((((s ++ a) ++ b) ++ c) ++ d) ++ e) ++ f) ++ g ≡ s ++ (a ++ (b ++ (c ++ (d ++ (e ++ (f ++ g))))))
seven s a b c d e f g = simp append_assoc
