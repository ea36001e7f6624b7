-- Faults with their places, and those of them that are told.
use Rattle.std.specs.Prelude.{ℕ, ◌+◌, ◌-◌, ◌^◌, ◌==◌, min, List, [], ◌∷◌, ◌++◌, length, nat_lt, if◌then◌else◌, Bool, Option, Some, None}
use Rattle.book_policy_faults.specs.declared.places.PlacedFault.{PlacedFault}
use Rattle.book_policy_faults.specs.declared.places.PlacedFaults.{PlacedFaults}
use Rattle.book_policy_faults.specs.declared.places.Spot.{Spot}
use Rattle.book_policy_faults.specs.declared.places.Problem.{Problem}
use Rattle.book_policy_faults.specs.declared.places.Problem.TheVariants.{UnknownKey, Missing, OtherKind, OtherVersion, LongLabel, NamesCount, Both, BadName, NameTwice, UnknownPrincipal, UnknownResource, UnknownPrivilege, TooMany, LongList}
use Rattle.book_policy_faults.specs.declared.places.TheConstants.{MAX_TOLD}

-- the number of the fault of a text that has the problem, in the order of the faults (`number` of `book_policy`)
abbrev pub order : Problem → ℕ
order OtherVersion = 2
order UnknownKey = 3
order Missing = 3
order OtherKind = 3
order LongLabel = 3
order NamesCount = 3
order Both = 3
order BadName = 4
order (NameTwice other) = 5
order UnknownPrincipal = 6
order UnknownResource = 7
order UnknownPrivilege = 8
order TooMany = 9
order LongList = 9

abbrev pub least : ℕ → ℕ → ℕ
least m n = if nat_lt m n then m else n

-- a number counted up, as far as a number goes
abbrev pub next : ℕ → ℕ
next n = min (n + 1) (2 ^ 64 - 1)

-- the fault of a problem at a spot, if there is one
abbrev pub placed : Spot → Option Problem → List PlacedFault
placed spot None = []
placed spot (Some problem) =
    record { kind = spot.kind; number = spot.number; key = spot.key; item = spot.item; problem = problem } ∷ []

-- ---- those that are told

abbrev pub no_faults : PlacedFaults
no_faults = record { told = []; more = 0; least = 11 }

-- one more: told, where fewer than 1,000 are
abbrev pub pushed : PlacedFaults → PlacedFault → PlacedFaults
pushed s f = record {
  told = if nat_lt (length s.told) MAX_TOLD then s.told ++ f ∷ [] else s.told;
  more = if nat_lt (length s.told) MAX_TOLD then s.more else next s.more;
  least = least s.least (order f.problem);
}

abbrev pub noted : PlacedFaults → List PlacedFault → PlacedFaults
noted s [] = s
noted s (f ∷ fs) = noted (pushed s f) fs

-- nothing is told
abbrev pub has_none : PlacedFaults → Bool
has_none s = length s.told == 0
