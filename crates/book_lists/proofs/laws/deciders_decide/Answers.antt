use Rattle.book_lists.proofs.FirstFound.{deciders_decide}
use Rattle.book_lists.proofs.laws.deciders_decide.Goals as goal

pub returns : goal.returns
returns c = deciders_decide
