-- The entries in force at a resource, each with its place in the list where it stands (RFC 3744, section 5.5; the order is own
-- profile).
use Rattle.std.specs.Prelude.{◌≡◌, ℕ, ◌+◌, ◌-◌, Bool, true, false, List, [], ◌∷◌, ◌++◌, map, nat_eq, slice_get, Option, Some, None, option_map, if◌then◌else◌}
use Rattle.std.specs.List.{flat_map}
use Rattle.book_lists.specs.declared.entries.Entry.{Entry}
use Rattle.book_log_lines.specs.declared.lines.Decided.{Decided}
use Rattle.book_office.specs.InForce.{list_in}
use Rattle.book_office.specs.declared.nodes.Level.{Level}
use Rattle.book_office_values.specs.declared.paths.Path.{Path}
use Rattle.book_log_replies.specs.declared.standing.Found.{Found}
use Rattle.book_log_replies.specs.declared.standing.Found.TheVariants.{Here, Behind}

-- entries with their numbers, which begin with this one
abbrev pub numbered : ℕ → List Entry → List (ℕ × Entry)
numbered n [] = []
numbered n (e ∷ es) = (n, e) ∷ numbered (n + 1) es

-- an entry with the resource, the list and the place where it stands; places count from 1
pub record Placed : Type 0 where
  pub from : Path
  pub is_protected : Bool
  pub place : ℕ
  pub entry : Entry

abbrev pub placed_at : Bool → Path → ℕ × Entry → Placed
placed_at is_protected from e = record { from = from; is_protected = is_protected; place = e.0; entry = e.1 }

abbrev pub placed : Bool → Level → List Placed
placed is_protected level = map (placed_at is_protected level.path) (numbered 1 (list_in is_protected level))

-- the protected entries of all levels, and then the own entries of all levels
abbrev pub all_placed : List Level → List Placed
all_placed levels = flat_map (placed true) levels ++ flat_map (placed false) levels

-- such an entry with its number in the effective list
abbrev pub decided : ℕ → Placed → Decided
decided n q = record { from = q.from; protected = q.is_protected; place = q.place; number = n; entry = q.entry }

-- the entry with a number of the effective list, which counts from 1
abbrev pub decided_of : List Level → ℕ → Option Decided
decided_of levels n = if nat_eq n 0 then None else option_map (decided n) (slice_get (all_placed levels) (n - 1))

-- what a look for an entry finds: it, or its index among those that follow
abbrev pub Finds : ℕ → Option Placed → List Placed → Found → Type 0
Finds n wanted more (Here found) = option_map (decided n) wanted ≡ Some found
Finds n wanted more (Behind rest) = wanted ≡ slice_get more rest
