use Rattle.book_questions_audit.proofs.PartsTold.{parts_told}
use Rattle.book_questions_audit.proofs.laws.parts_tell_every_resource.Goals as goal

pub returns : goal.returns
returns c = parts_told
