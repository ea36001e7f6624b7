-- Laws of the faults that are told.
use Rattle.std.specs.Prelude.{◌≡◌, ◌≢◌, ◌≤◌, ◌⊎◌, ℕ, List, [], ◌∷◌, take}
use Rattle.std.specs.List.{AllByRecursion}
use Rattle.book_policy_faults.specs.Placing.{no_faults, noted, order}
use Rattle.book_policy_faults.specs.declared.places.PlacedFault.{PlacedFault}
use Rattle.book_policy_faults.specs.declared.places.PlacedFaults.{PlacedFaults}
use Rattle.book_policy_faults.specs.declared.places.TheConstants.{MAX_TOLD}

abbrev pub told_of : PlacedFaults → List PlacedFault
told_of s = s.told

abbrev pub least_of : PlacedFaults → ℕ
least_of s = s.least

-- those that are told are the first 1,000 of all
abbrev pub ToldAreFirst : Type 0
ToldAreFirst = (fs : List PlacedFault) → told_of (noted no_faults fs) ≡ take MAX_TOLD fs

abbrev pub order_of : PlacedFault → ℕ
order_of f = order f.problem

-- one of them is the fault of this number
abbrev pub HasNumber : ℕ → List PlacedFault → Type 0
HasNumber n [] = ⊥
HasNumber n (f ∷ fs) = (order_of f ≡ n) ⊎ HasNumber n fs

-- no fault is before the least, and where there are faults one of them is the least
abbrev pub LeastIsTold : Type 0
LeastIsTold =
    (fs : List PlacedFault) → AllByRecursion (λ f. least_of (noted no_faults fs) ≤ order_of f) fs
    × (fs ≢ [] → HasNumber (least_of (noted no_faults fs)) fs)
