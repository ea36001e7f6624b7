use Rattle.book_questions_changes.proofs.Unchanged.{unchanged_is_told}
use Rattle.book_questions_changes.proofs.laws.unchanged_is_told.Goals as goal

pub returns : goal.returns
returns c = unchanged_is_told
