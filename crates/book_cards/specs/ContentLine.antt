-- Content lines (RFC 6350, section 3.3): [group "."] name *(";" param) ":" value.
use Rattle.std.specs.Prelude.{◌≡◌, ℕ, ◌<◌, Bool, true, false, not, ◌||◌, List, [], ◌∷◌, ◌++◌, length, ◌==◌, Option, Some, None, IfSome, ◌⊎◌}
use Rattle.std.specs.Char.{is_ascii_alphanumeric}
use Rattle.std.specs.List.{join_with_byte, concat, AllByRecursion}

-- the fields of a line, as they are written
pub record Fields : Type 0 where
  pub group : Option (List ℕ)
  pub name : List ℕ
  -- all parameters, each with the semicolon before it
  pub params : List ℕ
  pub value : List ℕ

-- a letter, a digit or a hyphen
abbrev pub is_name_byte : ℕ → Bool
is_name_byte b = is_ascii_alphanumeric b || b == 45

abbrev pub IsName : List ℕ → Type 0
IsName name = (0 < length name) × AllByRecursion (λ b. is_name_byte b ≡ true) name

-- no double quote, semicolon, colon or comma
abbrev pub is_bare_byte : ℕ → Bool
is_bare_byte b = not (b == 34 || b == 59 || b == 58 || b == 44)

abbrev pub IsBareValue : List ℕ → Type 0
IsBareValue value = AllByRecursion (λ b. is_bare_byte b ≡ true) value

abbrev pub IsQuotedValue : List ℕ → Type 0
IsQuotedValue value =
    (inside : List ℕ) × AllByRecursion (λ b. b == 34 ≡ false) inside × (value ≡ 34 ∷ inside ++ 34 ∷ [])

-- one or more values, with commas between them
abbrev pub AreValues : List ℕ → Type 0
AreValues text =
    (values : List (List ℕ)) × (0 < length values) × AllByRecursion (λ v. IsBareValue v ⊎ IsQuotedValue v) values
    × (text ≡ join_with_byte 44 values)

-- a semicolon, a name, an equals sign and values
abbrev pub IsParam : List ℕ → Type 0
IsParam text = (name values : List ℕ) × IsName name × AreValues values × (text ≡ 59 ∷ (name ++ 61 ∷ values))

abbrev pub AreParams : List ℕ → Type 0
AreParams text = (params : List (List ℕ)) × AllByRecursion IsParam params × (text ≡ concat params)

-- a group, with its full stop
abbrev pub group_text : Option (List ℕ) → List ℕ
group_text None = []
group_text (Some group) = group ++ 46 ∷ []

-- these fields, with their marks between them, are the line
pub record IsContentLine (line : List ℕ) (fields : Fields) : Type 0 where
  pub group : IfSome fields.group IsName
  pub name : IsName fields.name
  pub params : AreParams fields.params
  pub spelled : line ≡ group_text fields.group ++ (fields.name ++ (fields.params ++ 58 ∷ fields.value))
