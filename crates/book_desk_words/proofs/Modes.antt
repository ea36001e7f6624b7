-- Permissions in octal digits, as a text writes them.
use Rattle.std.proofs.Common.{◌≡◌, ◌≢◌, ◌≤◌, ◌<◌, ◌+◌, ◌*◌, ℕ, List, [], ◌∷◌, Ok, Err, Option, Some, None, length, codes, subst, sym, arith, slice_index, is_some, true}
use Rattle.std.specs.Char.{digit_value}
use Rattle.std.specs.Str.Parse.{AllDigits, IsNumeral, ParsesUnsigned, digits_value}
use Rattle.std.proofs.lemmas.Str.Parse.{without_leading_plus_none}
use Rattle.clap.specs.Words.{Row, first_of}
use Rattle.book_desk_words.specs.CommandLine.{MayHavePort, WritesMode}
use Rattle.book_desk_words.proofs.Missing.{HasNoNumber, not_given}

-- a text that begins with a plus is no numeral
pub plus_is_none : (text : List ℕ) → slice_index text 0 ≡ 43 → IsNumeral 8 text → ⊥
plus_is_none [] first is = let some : 0 < 0 = is.0 in omega arith
plus_is_none (c ∷ cs) first is = let digit : digit_value 43 < 8 = subst (λ x. digit_value x < 8) first is.1.0 in omega arith

four : (a b c d : ℕ) → a < 8 → b < 8 → c < 8 → d < 8 → (((0 * 8 + a) * 8 + b) * 8 + c) * 8 + d < 65536
four a b c d p q r s = omega arith

-- four octal digits write a number of two bytes
fits : (text : List ℕ) → 3 ≤ length text → length text ≤ 4 → AllDigits 8 text → digits_value 8 text < 65536
fits [] some few is = omega arith
fits (a ∷ []) some few is = omega arith
fits (a ∷ b ∷ []) some few is = omega arith
fits (a ∷ b ∷ c ∷ []) some few is = four 0 (digit_value a) (digit_value b) (digit_value c) (omega arith) is.0 is.1.0 is.1.1.0
fits (a ∷ b ∷ c ∷ d ∷ []) some few is = four (digit_value a) (digit_value b) (digit_value c) (digit_value d) is.0 is.1.0 is.1.1.0 is.1.1.1.0
fits (a ∷ b ∷ c ∷ d ∷ e ∷ more) some few is = omega arith

module _ (text : List ℕ) (some : 3 ≤ length text) (few : length text ≤ 4) (first : slice_index text 0 ≢ 43) where
  pub mode_read : (E : Type 0) (mode : ℕ) → ParsesUnsigned {E = E} 16 8 text (Ok mode) → WritesMode text mode
  mode_read E mode read =
      let plain = without_leading_plus_none text first in
      (some, few, subst (λ t. IsNumeral 8 t) plain read.0.0, subst (λ t. digits_value 8 t ≡ mode) plain (sym read.1))

  pub mode_none : (E : Type 0) (error : E) → ParsesUnsigned {E = E} 16 8 text (Err error) → (mode : ℕ) → WritesMode text mode → ⊥
  mode_none E error refused mode writes =
      let plain = without_leading_plus_none text first in
      refused (subst (λ t. IsNumeral 8 t × (digits_value 8 t < 65536)) (sym plain) (writes.2, fits text some few writes.2.1))

-- what is given is no port
pub no_port : (rows : List Row) → is_some (first_of (codes "port") rows) ≡ true → HasNoNumber rows (codes "port")
    → (port : Option ℕ) → MayHavePort rows port → ⊥
no_port rows is none None without = not_given (first_of (codes "port") rows) is without
no_port rows is none (Some p) has = none p has.1 has.0
