use Rattle.book_wire_targets.proofs.Phrases.{phrases_are_short}
use Rattle.book_wire_targets.proofs.statuses.phrase.Goals as goal

pub returns-clause-short : goal.returns-clause-short
returns-clause-short c = rw c.phrase_text.ensures (phrases_are_short c.args.status)
