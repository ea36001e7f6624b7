use Rattle.book_log_replies.proofs.Naming.{denials_named, places_in_force}
use Rattle.book_log_replies.proofs.laws.denials_name_the_entry.Goals as goal

pub returns-clause-in_force : goal.returns-clause-in_force
returns-clause-in_force c = places_in_force

pub returns-clause-named : goal.returns-clause-named
returns-clause-named c = denials_named
