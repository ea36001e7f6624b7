use Rattle.book_desk_connections.proofs.rounds.copies_of.Goals as goal

pub loop-place-preserved : goal.loop-place-preserved
loop-place-preserved c = c.in_ok-push_copy.ensures c.loop-place.invariant
