use Rattle.book_questions_rights.proofs.Grants.{classes_tell, lines_tell}
use Rattle.book_questions_rights.proofs.laws.rights_are_the_grants.Goals as goal

pub returns : goal.returns
returns c = record { resources = lines_tell; cards = classes_tell }
