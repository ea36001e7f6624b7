use Rattle.book_office_listings.proofs.ToldResources.{granted_told}
use Rattle.book_office_listings.proofs.laws.granted_resources_are_told.Goals as goal

pub returns : goal.returns
returns c = granted_told
