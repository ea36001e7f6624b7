use Rattle.book_questions_json.proofs.ToldHeld.{held_told}
use Rattle.book_questions_json.proofs.laws.rights_tell_the_held.Goals as goal

pub returns : goal.returns
returns c = held_told
