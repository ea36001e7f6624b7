use Rattle.std.proofs.Common.{None}
use Rattle.book_wire_serving.proofs.LentServings.{heads}
use Rattle.book_log_service.proofs.rounds.serve_over.Goals as goal

pub returns-clause-same_reference : goal.returns-clause-same_reference
returns-clause-same_reference g c = heads _ _ _ _ (c.serve.ensures.owes None).served.falls.names
