use Rattle.book_office_listings.proofs.AlikeListings.{unread_unseen}
use Rattle.book_office_listings.proofs.laws.unread_resources_stay_unseen.Goals as goal

pub returns : goal.returns
returns c = unread_unseen
