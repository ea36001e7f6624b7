use Rattle.book_dumps_changes.proofs.Ruling.{joined_apart, others_alike}
use Rattle.book_dumps_changes.proofs.laws.others_are_ruled_alike.Goals as goal

pub returns-clause-alike : goal.returns-clause-alike
returns-clause-alike c = others_alike

pub returns-clause-joined : goal.returns-clause-joined
returns-clause-joined c = joined_apart
