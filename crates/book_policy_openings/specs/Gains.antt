-- A caller who may get leaves at a resource: the requests, served one after the other over an Office.
use Rattle.std.specs.Prelude.{◌≡◌, ℕ, Bool, true, List, Option, All, is_some}
use Rattle.book_rights.specs.Leaves.{difference}
use Rattle.book_rights.specs.declared.privileges.Leaf.{Leaf}
use Rattle.book_lists.specs.Callers.{IsCircle}
use Rattle.book_lists.specs.Circles.{CircleOf}
use Rattle.book_office.specs.Resources.{node_at}
use Rattle.book_office_adopting.specs.TakingOver.{bare}
use Rattle.book_office_values.specs.declared.offices.Office.{Office}
use Rattle.book_office_values.specs.declared.paths.Path.{Path}
use Rattle.book_policy_gaps.specs.Places.{AreHeld}
use Rattle.book_policy_openings.specs.Openings.{Leads}
use Rattle.book_policy_openings.specs.Steps.{caller_of}
use Rattle.book_policy_openings.specs.declared.gains.Gain.{Gain}

-- a resource is at a path
abbrev pub IsThere : Office → Path → Type 0
IsThere o p = is_some (node_at o p) ≡ true

-- the leaves are exactly those that the decision grants a caller at a resource
abbrev pub Holds : Office → Option (List ℕ) → Path → (Leaf → Bool) → Type 0
Holds o caller p set = (circle : CircleOf) × IsCircle o.pairs (caller_of caller) circle × AreHeld o circle p set

-- the leaves are exactly those that are in the one set and were not in the other, and there is one
abbrev pub AreGained : (Leaf → Bool) → (Leaf → Bool) → (Leaf → Bool) → Type 0
AreGained before after leaves = (leaves ≡ difference after before) × ((leaf : Leaf) × (leaves leaf ≡ true))

-- from an Office: the caller holds leaves at a resource that is there; their requests are served; then they hold these beside
pub record IsGainFrom (o : Office) (gain : Gain) : Type 0 where
  pub later : Office
  pub before : Leaf → Bool
  pub after : Leaf → Bool
  pub there : IsThere o gain.at
  pub held : Holds o gain.caller gain.at before
  pub led : Leads o gain.caller gain.first gain.second later
  pub holds : Holds later gain.caller gain.at after
  pub gained : AreGained before after gain.leaves

-- in an Office, of which the cards have no part
abbrev pub IsGainIn : Office → Gain → Type 0
IsGainIn o gain = IsGainFrom (bare o) gain

-- what is added to gains is such
abbrev pub AddsGains : Office → List Gain → List Gain → Type 0
AddsGains o old new = All (IsGainIn o) old → All (IsGainIn o) new
