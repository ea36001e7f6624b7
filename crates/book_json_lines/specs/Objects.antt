-- JSON that is written token by token (RFC 8259), and objects in which keys without a value are left out.
use Rattle.std.specs.Prelude.{◌≡◌, ℕ, List, [], ◌∷◌, ◌++◌, Result, OnOk, Option, Some, None, codes, decimal}
use Rattle.json.specs.Json.{Json, number, object, Items, no_items, item, Members, no_members, member}
use Rattle.json.specs.Print.{print}
use Rattle.json.specs.Token.{Token, key}
use Rattle.json.specs.Tree.{json_tokens}

abbrev pub items_of : List Json → Items
items_of [] = no_items
items_of (j ∷ js) = item j (items_of js)

-- an object's members, one after the other
abbrev pub members_of : List (List ℕ × Json) → Members
members_of [] = no_members
members_of (m ∷ ms) = member m.0 m.1 (members_of ms)

-- a key with its value, if it has one
abbrev pub if_some : List ℕ → Option Json → List (List ℕ × Json)
if_some k None = []
if_some k (Some j) = (k, j) ∷ []

-- what a list says, unless it is empty
abbrev pub unless_empty : {A : Type 0} → (List A → Json) → List A → Option Json
unless_empty f [] = None
unless_empty f (x ∷ xs) = Some (f (x ∷ xs))

abbrev pub number_json : ℕ → Json
number_json n = number (decimal n)

-- a value as a line of text
abbrev pub text_line : Json → List ℕ
text_line j = print (json_tokens j) ++ codes "\n"

-- ---- what is written
-- these tokens are added, each after those before it
abbrev pub added : List Token → List Token → List Token
added old [] = old
added old (t ∷ ts) = added (old ++ t ∷ []) ts

-- those of values are added, one value after the other
abbrev pub told : List Token → List Json → List Token
told old [] = old
told old (j ∷ js) = told (added old (json_tokens j)) js

-- the value is told whole, or memory is refused
abbrev pub Tells : {E : Type 0} → Result (Unit {0}) E → List Token → List Token → Json → Type 0
Tells r old new j = OnOk r (new ≡ added old (json_tokens j))

-- so are these values, one after the other
abbrev pub TellsEach : {E : Type 0} → Result (Unit {0}) E → List Token → List Token → List Json → Type 0
TellsEach r old new js = OnOk r (new ≡ told old js)

-- members are added, one after the other
abbrev pub told_members : List Token → List (List ℕ × Json) → List Token
told_members old [] = old
told_members old (m ∷ ms) = told_members (added (old ++ key m.0 ∷ []) (json_tokens m.1)) ms

-- these members are told, or memory is refused
abbrev pub TellsMembers : {E : Type 0} → Result (Unit {0}) E → List Token → List Token → List (List ℕ × Json) → Type 0
TellsMembers r old new ms = OnOk r (new ≡ told_members old ms)
