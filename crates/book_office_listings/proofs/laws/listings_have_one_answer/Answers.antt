use Rattle.book_office_listings.proofs.OneListing.{one_listing}
use Rattle.book_office_listings.proofs.laws.listings_have_one_answer.Goals as goal

pub returns : goal.returns
returns c = one_listing
