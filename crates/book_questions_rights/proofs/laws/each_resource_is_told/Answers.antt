use Rattle.book_questions_rights.proofs.EachTold.{each_is_told}
use Rattle.book_questions_rights.proofs.laws.each_resource_is_told.Goals as goal

pub returns : goal.returns
returns c = each_is_told
