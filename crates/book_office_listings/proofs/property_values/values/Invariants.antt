use Rattle.book_office_listings.proofs.Common.{◌≡◌, ◌∷◌, map, take, effective_of}
use Rattle.book_office_listings.specs.Values.{value_of}
use Rattle.book_office_listings.proofs.property_values.values.Given as goal

-- the values of the properties so far
abbrev pub invariant-loop-property : goal.invariant-loop-property
invariant-loop-property l = l.told.items ≡ map (value_of l.whole l.circle l.own.path l.subject (effective_of (l.own ∷ l.above))) (take l.property-index l.asked)
