use Rattle.book_log_denials.proofs.Times.{tallies_tell, untold}
use Rattle.book_log_denials.proofs.laws.tallies_tell_first_and_last.Goals as goal

pub returns-clause-told : goal.returns-clause-told
returns-clause-told c = tallies_tell

pub returns-clause-untold : goal.returns-clause-untold
returns-clause-untold c = untold
