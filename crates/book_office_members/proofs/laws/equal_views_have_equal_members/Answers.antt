use Rattle.book_office_members.proofs.Views.{equal_views}
use Rattle.book_office_members.proofs.laws.equal_views_have_equal_members.Goals as goal

pub returns : goal.returns
returns c = equal_views
