use Rattle.book_questions_changes.proofs.Adopted.{unchanged_is_no_adoption}
use Rattle.book_questions_changes.proofs.laws.unchanged_is_no_adoption.Goals as goal

pub returns : goal.returns
returns c = unchanged_is_no_adoption
