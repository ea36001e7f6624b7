-- What the definitions imply.
use Rattle.std.specs.Prelude.{◌≡◌, ℕ, Bool, false, List, [], ◌∷◌, ◌++◌, codes, length, Some, None}
use Rattle.std.specs.List.{All}
use Rattle.std.specs.Ordering.{is_lt}
use Rattle.json.specs.Json.{Json, object, string}
use Rattle.book_json_lines.specs.Objects.{members_of, number_json, text_line}
use Rattle.book_log_lines.specs.Times.{IsTime, time_cmp}
use Rattle.book_log_lines.specs.declared.lines.Denied.{Denied}
use Rattle.book_log_lines.specs.declared.lines.ReplyLine.{ReplyLine}
use Rattle.book_log_denials.specs.Denials.{group_members, group_text, tally_line}
use Rattle.book_log_denials.specs.Tallies.{counted, tally_of}
use Rattle.book_log_denials.specs.declared.forms.Form.TheVariants as form
use Rattle.book_log_denials.specs.declared.tallies.Tally.{Tally}

-- the text stands in the list
abbrev pub IsAmong : List ℕ → List (List ℕ) → Type 0
IsAmong t ts = (front back : List (List ℕ)) × (ts ≡ front ++ t ∷ back)

-- one of these times, and none of them is before it
pub record IsFirst (t : List ℕ) (ts : List (List ℕ)) : Type 0 where
  pub among : IsAmong t ts
  pub none_before : All (λ (u : List ℕ). is_lt (time_cmp u t) ≡ false) ts

-- one of these times, and none of them is after it
pub record IsLast (t : List ℕ) (ts : List (List ℕ)) : Type 0 where
  pub among : IsAmong t ts
  pub none_after : All (λ (u : List ℕ). is_lt (time_cmp t u) ≡ false) ts

-- how many times there are, the first of them and the last
pub record Tells (tally : Tally) (ts : List (List ℕ)) : Type 0 where
  pub count : tally.count ≡ counted (length ts)
  pub first : IsFirst tally.first ts
  pub last : IsLast tally.last ts

-- what is told of a group tells its times
abbrev pub TalliesTellFirstAndLast : Type 0
TalliesTellFirstAndLast = (ts : List (List ℕ)) (tally : Tally) → tally_of ts ≡ Some tally → Tells tally ts

-- a group is told where it has a denial, and only there
abbrev pub EmptyGroupsAreUntold : Type 0
EmptyGroupsAreUntold = (ts : List (List ℕ)) → (tally_of ts ≡ None → ts ≡ []) × (ts ≡ [] → tally_of ts ≡ None)

-- how often, and when first and last
abbrev pub tally_members : Tally → List (List ℕ × Json)
tally_members y = (codes "count", number_json y.count) ∷ (codes "first", string y.first) ∷ (codes "last", string y.last) ∷ []

-- the line of a group as an object is that of a JSON object with these members
abbrev pub ObjectsAreJson : Type 0
ObjectsAreJson =
    (l : ReplyLine) (d : Denied) (y : Tally) → IsTime y.first → IsTime y.last
    → tally_line form.Object (group_text form.Object l d) y ≡ text_line (object (members_of (tally_members y ++ group_members l d)))
