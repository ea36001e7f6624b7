use Rattle.book_questions_chains.proofs.ChainLaws.{chains_told}
use Rattle.book_questions_chains.proofs.laws.chains_are_told.Goals as goal

pub returns : goal.returns
returns c = chains_told
