use Rattle.book_office_listings.proofs.Looking.{rulings_grant}
use Rattle.book_office_listings.proofs.laws.rulings_are_the_grants.Goals as goal

pub returns : goal.returns
returns c = rulings_grant
