use Rattle.book_policy.proofs.Words.{no_who, path_who}
use Rattle.book_policy.proofs.entries.who_of.Goals as goal

pub returns-in-Some-2-clause-some : goal.returns-in-Some-2-clause-some
returns-in-Some-2-clause-some c =
    path_who c.args.text.now c.in-Some-2.principal c.in_default.ensures.none (rw c.in-Some-2.is at c.in_ok-principal.ensures.found)

pub returns-in-None-clause-none : goal.returns-in-None-clause-none
returns-in-None-clause-none c =
    no_who c.args.text.now c.in_default.ensures.none (rw c.in-None.is at c.in_ok-principal.ensures.none)
