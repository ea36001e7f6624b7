use Rattle.book_questions_json.proofs.ToldFacts.{facts_told}
use Rattle.book_questions_json.proofs.laws.texts_tell_the_facts.Goals as goal

pub returns : goal.returns
returns c = facts_told
