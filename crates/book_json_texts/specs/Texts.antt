-- Bytes that are the text of some tokens.
use Rattle.std.specs.Prelude.{◌≡◌, ℕ, ◌≤◌, Bool, List, length, take}
use Rattle.json.specs.Print.{ArePrintable, ends_value, print}
use Rattle.json.specs.Token.{Token}

-- the first bytes of a buffer are the text of tokens, and whether a value ends there
pub record IsTextOf (buffer : List ℕ) (len : ℕ) (after_value : Bool) : Type 0 where
  pub within : len ≤ length buffer
  pub printed : List Token
  pub printable : ArePrintable printed
  pub text : take len buffer ≡ print printed
  pub place : after_value ≡ ends_value printed
