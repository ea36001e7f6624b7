use Rattle.book_policy_idle.proofs.askers.asker_of.Goals as goal

pub returns-clause-right : goal.returns-clause-right
returns-clause-right c = record { circle = c.in_ok-circle.ensures; own = c.in_ok-own.ensures }
