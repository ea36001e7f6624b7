use Rattle.book_questions_audit.proofs.PartsTold.{parts_of_audit}
use Rattle.book_questions_audit.proofs.laws.parts_are_of_the_audit.Goals as goal

pub returns : goal.returns
returns c = parts_of_audit
