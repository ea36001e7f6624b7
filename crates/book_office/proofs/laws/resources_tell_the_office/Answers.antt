use Rattle.book_office.proofs.SameOffices.{same_office}
use Rattle.book_office.proofs.laws.resources_tell_the_office.Goals as goal

pub returns : goal.returns
returns c = same_office
