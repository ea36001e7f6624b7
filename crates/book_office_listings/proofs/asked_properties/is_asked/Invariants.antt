use Rattle.book_office_listings.proofs.Common.{◌≡◌, drop}
use Rattle.book_office_listings.specs.Properties.{is_asked}
use Rattle.book_office_listings.proofs.asked_properties.is_asked.Given as goal

-- no earlier property is the one that is looked for
abbrev pub invariant-loop-other : goal.invariant-loop-other
invariant-loop-other l = is_asked l.property (drop l.other-index l.properties) ≡ is_asked l.property l.properties
