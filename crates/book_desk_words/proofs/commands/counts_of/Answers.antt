use Rattle.book_desk_words.proofs.Missing.{for_none}
use Rattle.book_desk_words.proofs.commands.counts_of.Goals as goal

pub returns-in_err-connections-clause-none : goal.returns-in_err-connections-clause-none
returns-in_err-connections-clause-none c = for_none c.from_residual.result _ (λ connections at_once idle h. c.in_err-connections.ensures.none connections h.0)
