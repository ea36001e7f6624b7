use Rattle.book_office_listings.proofs.FoundListings.{listings_exist, rulings_exist}
use Rattle.book_office_listings.proofs.laws.listings_exist.Goals as goal

pub returns-clause-listings : goal.returns-clause-listings
returns-clause-listings c = listings_exist

pub returns-clause-rulings : goal.returns-clause-rulings
returns-clause-rulings c = rulings_exist
