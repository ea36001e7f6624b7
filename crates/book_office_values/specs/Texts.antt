-- What a label and the text of a card may be.
use Rattle.std.specs.Prelude.{ℕ, List, length, ◌≤◌}
use Rattle.std.specs.Str.{IsUtf8}
use Rattle.book_limits.specs.declared.TheConstants.{MAX_LABEL_BYTES, MAX_CARD_BYTES}

pub record IsLabel (label : List ℕ) : Type 0 where
  pub utf8 : IsUtf8 label
  pub short : length label ≤ MAX_LABEL_BYTES

pub record IsCardText (text : List ℕ) : Type 0 where
  pub utf8 : IsUtf8 text
  pub short : length text ≤ MAX_CARD_BYTES
