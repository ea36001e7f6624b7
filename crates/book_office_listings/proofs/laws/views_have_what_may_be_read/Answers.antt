use Rattle.book_office_listings.proofs.ViewedCards.{texts_are_told_where_granted, views_have_what_may_be_read}
use Rattle.book_office_listings.proofs.laws.views_have_what_may_be_read.Goals as goal

pub returns-clause-views : goal.returns-clause-views
returns-clause-views c = views_have_what_may_be_read

pub returns-clause-texts : goal.returns-clause-texts
returns-clause-texts c = texts_are_told_where_granted
