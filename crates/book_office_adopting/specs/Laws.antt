-- What adopting a policy implies.
use Rattle.std.specs.Prelude.{◌≡◌, ◌+◌}
use Rattle.book_policy_values.specs.declared.parts.PolicyTables.{PolicyTables}
use Rattle.book_office_values.specs.declared.offices.Office.{Office}
use Rattle.book_office_adopting.specs.Adopting.{adopt, adoption_of, taken_over}
use Rattle.book_office_adopting.specs.TakingOver.{bare}

-- to adopt a policy twice is to adopt it once, the epoch included
abbrev pub AdoptingTwiceIsOnce : Type 0
AdoptingTwiceIsOnce = (t : PolicyTables) (o : Office) → adopt t (adopt t o) ≡ adopt t o

-- where the five first steps change nothing, nothing changes
abbrev pub AdoptingMayChangeNothing : Type 0
AdoptingMayChangeNothing = (t : PolicyTables) (o : Office) → taken_over t o ≡ o → adopt t o ≡ o

-- else the epoch rises by one
abbrev pub AdoptingRaisesTheEpoch : Type 0
AdoptingRaisesTheEpoch = (t : PolicyTables) (o : Office) → (taken_over t o ≡ o → ⊥)
    → adopt t o ≡ record (taken_over t o) { epoch = o.epoch + 1 }

-- what adopting a policy does is told by the Office without its cards and changes
abbrev pub AdoptionNeedsNoCards : Type 0
AdoptionNeedsNoCards = (t : PolicyTables) (o : Office) → adoption_of t (bare o) ≡ adoption_of t o

-- and so is what it makes of the Office, but for cards and changes
abbrev pub AdoptingNeedsNoCards : Type 0
AdoptingNeedsNoCards = (t : PolicyTables) (o : Office) → bare (adopt t (bare o)) ≡ bare (adopt t o)
