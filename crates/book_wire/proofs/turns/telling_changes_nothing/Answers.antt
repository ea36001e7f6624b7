use Rattle.book_wire.proofs.turns.telling_changes_nothing.Goals as goal

pub returns : goal.returns
returns c = c.refusals_change_nothing.ensures.telling
