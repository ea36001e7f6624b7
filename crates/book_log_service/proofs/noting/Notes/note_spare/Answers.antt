use Rattle.book_log_service.proofs.Appended.{gains_text, spare_told}
use Rattle.book_wire_serving.specs.Logs.{IsBare}
use Rattle.book_log_service.proofs.noting.Notes.note_spare.Goals as goal

pub returns-in-Some-clause-noted : goal.returns-in-Some-clause-noted
returns-in-Some-clause-noted g c =
    let unavailable = c.is_unavailable.ensures c.if-is_unavailable.true in
    gains_text _ _ c.in-Some.text.now (IsBare c.args.status c.args.error.now) c.append.ensures.noted
    (spare_told c.args.self.now.spare c.in-Some.text.now c.args.error.now c.args.status c.in-Some.ensures.some c.in-Some.ensures.known unavailable.0 unavailable.1)
