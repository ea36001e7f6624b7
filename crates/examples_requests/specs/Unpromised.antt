-- What a keeper of the examples promises: nothing but its count of failures.
use Rattle.std.specs.Prelude.{ℕ}
use Rattle.book_office.specs.Keeping.{Standing, no_fallback}
use Rattle.book_office.specs.Sound.{IsSound}

abbrev pub unpromised : ℕ → Standing
unpromised n = record { honest = ⊥; stands = λ o. IsSound o; sound = λ o sound. sound; left = λ x. ⊥; failures = n; fallback = no_fallback }
