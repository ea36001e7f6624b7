use Rattle.book_log_service.proofs.Spelled.{settles_withdrawn}
use Rattle.book_log_service.proofs.noting.Notes.settle.Goals as goal

pub returns-clause-settles : goal.returns-clause-settles
returns-clause-settles g c =
    settles_withdrawn _ _ _ _ _ c.args.reply c.unavailable.result _ _ c.in-Err.field-0 c.in-Err.ensures c.unavailable.ensures (c.is_empty.ensures.telling c.if-is_empty.false) c.requires.made
