-- Lines of text, and values whose numbers are numerals.
use Rattle.std.specs.Prelude.{◌≡◌, ◌≢◌, ℕ, ◌<◌, ◌^◌, List, [], ◌∷◌, ◌++◌, decimal}
use Rattle.json.specs.Json.{Json, null, boolean, number, string, array, object, Items, no_items, item, Members, no_members, member}

-- no byte is a line feed
abbrev pub NoFeed : List ℕ → Type 0
NoFeed [] = Unit {0}
NoFeed (x ∷ xs) = (x ≢ 10) × NoFeed xs

-- a text that ends with its only line feed
abbrev pub IsLine : List ℕ → Type 0
IsLine l = (t : List ℕ) × NoFeed t × (l ≡ t ++ 10 ∷ [])

-- a number of 64 bits, in decimal
abbrev pub IsNumeral : List ℕ → Type 0
IsNumeral s = (n : ℕ) × (n < 2 ^ 64) × (s ≡ decimal n)

-- each number of a value is such a numeral
abbrev mutual
  pub HasNumerals : Json → Type 0
  HasNumerals null = Unit {0}
  HasNumerals (boolean b) = Unit {0}
  HasNumerals (number s) = IsNumeral s
  HasNumerals (string s) = Unit {0}
  HasNumerals (array js) = ItemsHaveNumerals js
  HasNumerals (object ms) = MembersHaveNumerals ms

  pub ItemsHaveNumerals : Items → Type 0
  ItemsHaveNumerals no_items = Unit {0}
  ItemsHaveNumerals (item j js) = HasNumerals j × ItemsHaveNumerals js

  pub MembersHaveNumerals : Members → Type 0
  MembersHaveNumerals no_members = Unit {0}
  MembersHaveNumerals (member k j ms) = HasNumerals j × MembersHaveNumerals ms
