use Rattle.book_dumps.proofs.SameText.{dumps_are_exact}
use Rattle.book_dumps.proofs.laws.dumps_are_exact.Goals as goal

pub returns : goal.returns
returns c = dumps_are_exact
