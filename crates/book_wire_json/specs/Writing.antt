-- JSON that is written token by token (RFC 8259).
use Rattle.std.specs.Prelude.{◌≡◌, ℕ, List, [], ◌∷◌, ◌++◌, Result, OnOk}
use Rattle.json.specs.Token.{Token, key}
use Rattle.json.specs.Tree.{json_tokens}
use Rattle.serde_json.specs.Data.{Data, Members, no_members, member}
use Rattle.serde_json.specs.Written.{outline}

-- the tokens of a value
abbrev pub data_tokens : Data → List Token
data_tokens d = json_tokens (outline d)

-- these tokens are added, each after those before it
abbrev pub added : List Token → List Token → List Token
added old [] = old
added old (t ∷ ts) = added (old ++ t ∷ []) ts

-- those of values are added, one value after the other
abbrev pub told : List Token → List Data → List Token
told old [] = old
told old (d ∷ ds) = told (added old (data_tokens d)) ds

-- the value is told whole, or memory is refused
abbrev pub Tells : {E : Type 0} → Result (Unit {0}) E → List Token → List Token → Data → Type 0
Tells r old new d = OnOk r (new ≡ added old (data_tokens d))

-- so are these values, one after the other
abbrev pub TellsEach : {E : Type 0} → Result (Unit {0}) E → List Token → List Token → List Data → Type 0
TellsEach r old new ds = OnOk r (new ≡ told old ds)

-- an object's members, one after the other
abbrev pub members_of : List (List ℕ × Data) → Members
members_of [] = no_members
members_of (m ∷ ms) = member m.0 m.1 (members_of ms)

-- members are added, one after the other
abbrev pub told_members : List Token → List (List ℕ × Data) → List Token
told_members old [] = old
told_members old (m ∷ ms) = told_members (added (old ++ key m.0 ∷ []) (data_tokens m.1)) ms

-- these members are told, or memory is refused
abbrev pub TellsMembers : {E : Type 0} → Result (Unit {0}) E → List Token → List Token → List (List ℕ × Data) → Type 0
TellsMembers r old new ms = OnOk r (new ≡ told_members old ms)
