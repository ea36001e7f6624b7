use Rattle.book_dumps.proofs.Telling.{dumps_tell, lines_dumped}
use Rattle.book_dumps.proofs.laws.dumps_tell_every_resource.Goals as goal

pub returns-clause-resources : goal.returns-clause-resources
returns-clause-resources c = dumps_tell

pub returns-clause-lines : goal.returns-clause-lines
returns-clause-lines c = lines_dumped
