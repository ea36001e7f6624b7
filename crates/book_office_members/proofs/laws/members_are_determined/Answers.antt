use Rattle.book_office_members.proofs.Determined.{determined}
use Rattle.book_office_members.proofs.laws.members_are_determined.Goals as goal

pub returns : goal.returns
returns c = determined
