-- The lines of the first 1,000 warnings, and of how many more there are; and warnings of four kinds in turn.
use Rattle.std.proofs.Common.{◌≡◌, ◌++◌, ◌-◌, ◌∙◌, ℕ, List, length, ap, ap₂, append_assoc, arith}
use Rattle.std.specs.Prelude.{min, take}
use Rattle.std.proofs.lemmas.List.{take_min}
use Rattle.book_policy_warnings.specs.Sentences.{more_line, warning_lines, warnings_text}
use Rattle.book_policy_warnings.specs.declared.warnings.Warning.{Warning}

pub first_lines : (warnings : List Warning) (told : ℕ) → told ≡ min (length warnings) 1000
    → warning_lines (take told warnings) ++ more_line (length warnings - told) ≡ warnings_text warnings
first_lines warnings told is =
    let flipped : told ≡ min 1000 (length warnings) = omega (arith, is) in
    let first : take told warnings ≡ take 1000 warnings = ap (λ n. take n warnings) flipped ∙ take_min 1000 warnings in
    let more : length warnings - told ≡ length warnings - 1000 = omega (arith, is) in
    ap₂ (λ a b. a ++ b) (ap warning_lines first) (ap more_line more)

pub four_parts : {A : Type 0} (a b c d : List A) → ((a ++ b) ++ c) ++ d ≡ a ++ (b ++ (c ++ d))
four_parts a b c d = append_assoc (a ++ b) c d ∙ append_assoc a b (c ++ d)
