-- Why an entry changes no decision. Each reason is a fact of the small model: an entry applies to nobody where it would decide nothing
-- if it were the only one; it is behind another one, which stands before it in the order of decision, where it would decide nothing if
-- the two were the only ones; or it decides, and the same is decided without it.
use Rattle.std.specs.Prelude.{◌≡◌, ℕ, ◌+◌, List, [], ◌∷◌, ◌++◌, nat_eq, slice_get, All, Option, Some, None, if◌then◌else◌}
use Rattle.std.specs.Str.{bytes_eq}
use Rattle.book_office_values.specs.Paths.{path_text}
use Rattle.book_office_values.specs.declared.paths.Path.{Path}
use Rattle.book_policy_values.specs.declared.parts.PolicyEntry.{PolicyEntry}
use Rattle.book_policy_values.specs.declared.parts.PolicyTables.{PolicyTables}
use Rattle.book_policy_idle.specs.Alike.{CanGo}
use Rattle.book_policy_idle.specs.Idle.{NeverDecides, placed_in_force, places_of}
use Rattle.book_policy_idle.specs.declared.in_force.Placed.{Placed}
use Rattle.book_policy_idle.specs.declared.reasons.Ahead.{Ahead}
use Rattle.book_policy_idle.specs.declared.reasons.Reason.{Reason}
use Rattle.book_policy_idle.specs.declared.reasons.Reason.TheVariants.{ForNobody, BehindOne, BehindSeveral, DecidedAlike}

-- the policy with other entries
abbrev pub with_entries : PolicyTables → List PolicyEntry → PolicyTables
with_entries t es = record t { entries = es }

-- the entry applies to nobody
abbrev pub IsForNobody : PolicyTables → PolicyEntry → Type 0
IsForNobody t e = NeverDecides (with_entries t (e ∷ [])) 0

-- the entry is behind another one, which stands before it: that one decides each leaf of it, for each to whom it applies
abbrev pub IsBehind : PolicyTables → PolicyEntry → PolicyEntry → Type 0
IsBehind t e ahead = NeverDecides (with_entries t (ahead ∷ e ∷ [])) 1

-- the entry is behind the one of the policy with an index
abbrev pub IsBehindAt : PolicyTables → PolicyEntry → ℕ → Type 0
IsBehindAt t e k = (ahead : PolicyEntry) × (slice_get t.entries k ≡ Some ahead) × IsBehind t e ahead

-- the entries in force at the place with a text, in the order of decision
abbrev pub order_at : List PolicyEntry → List ℕ → List Path → List Placed
order_at es at [] = []
order_at es at (p ∷ ps) = if bytes_eq (path_text p) at then placed_in_force es p else order_at es at ps

-- those of a list that stand before the entry with an index
abbrev pub before : ℕ → List Placed → List Placed
before i [] = []
before i (x ∷ xs) = if nat_eq x.index i then [] else x ∷ before i xs

-- an entry that stands before another one as it is told: its number from 1, where it stands, and in which list
abbrev pub ahead_entry : ℕ → PolicyEntry → Ahead
ahead_entry k a = record { number = k + 1; at = a.at; protected = a.protected }

-- the entry is behind the one with an index, which is this; or it is not behind it
abbrev pub IsAhead : PolicyTables → PolicyEntry → ℕ → Option Ahead → Type 0
IsAhead t e k None = IsBehindAt t e k → ⊥
IsAhead t e k (Some ahead) = (a : PolicyEntry) × (slice_get t.entries k ≡ Some a) × IsBehind t e a × (ahead ≡ ahead_entry k a)

-- the first of a list behind which the entry is
pub record IsFirst (t : PolicyTables) (e : PolicyEntry) (list : List Placed) (ahead : Ahead) : Type 0 where
  pub front : List Placed
  pub one : Placed
  pub back : List Placed
  pub parts : list ≡ front ++ one ∷ back
  pub behind : IsAhead t e one.index (Some ahead)
  pub first : All (λ (x : Placed). IsBehindAt t e x.index → ⊥) front

abbrev pub IsFirstAhead : PolicyTables → PolicyEntry → List Placed → Option Ahead → Type 0
IsFirstAhead t e list None = All (λ (x : Placed). IsBehindAt t e x.index → ⊥) list
IsFirstAhead t e list (Some ahead) = IsFirst t e list ahead

-- those that stand before an entry of the policy with an index in the order of decision at its place
abbrev pub ahead_of : PolicyTables → PolicyEntry → ℕ → List Placed
ahead_of t e i = before i (order_at t.entries e.at (places_of t))

-- why the entry with an index changes no decision
abbrev pub IsReason : PolicyTables → PolicyEntry → ℕ → Reason → Type 0
IsReason t e i ForNobody = NeverDecides t i × IsForNobody t e
IsReason t e i (BehindOne ahead) = NeverDecides t i × (IsForNobody t e → ⊥) × IsFirst t e (ahead_of t e i) ahead
IsReason t e i BehindSeveral = NeverDecides t i × (IsForNobody t e → ⊥) × All (λ (x : Placed). IsBehindAt t e x.index → ⊥) (ahead_of t e i)
IsReason t e i DecidedAlike = CanGo t i e
