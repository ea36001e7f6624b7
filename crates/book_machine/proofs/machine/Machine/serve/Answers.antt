use Rattle.book_machine.proofs.Answering.{answers_refusal, answers_read, answers_edit, answers_fault}
use Rattle.book_machine.proofs.UnseenRuns.{hides_unread}
use Rattle.book_machine.proofs.machine.Machine.serve.Goals as goal

pub returns-in-Err : goal.returns-in-Err
returns-in-Err g c =
    let served = answers_refusal _ _ _ _ c.in-Err.refusal c.in-Err.ensures in
    rw c.refused.ensures (record { served = served; unseen = hides_unread _ _ _ _ _ served; well_formed = c.known.ensures })

pub returns-in-None : goal.returns-in-None
returns-in-None g c =
    let served = answers_read _ _ _ _ c.in-Ok.field-0 c.in-Ok.ensures c.in-None.is in
    record { served = served; unseen = hides_unread _ _ _ _ _ served; well_formed = c.known.ensures }

pub returns-in-Ok-made : goal.returns-in-Ok-made
returns-in-Ok-made g c =
    let served = answers_edit _ _ _ _ _ c.in-Ok.field-0 c.in-Some.edit c.known.ensures c.in-Ok.ensures c.in-Some.is c.in-Ok-made.field-0 c.in-Ok-made.ensures in
    record { served = served; unseen = hides_unread _ _ _ _ _ served; well_formed = c.known.ensures }

pub returns-in-Err-made : goal.returns-in-Err-made
returns-in-Err-made g c =
    let served = answers_fault _ _ _ _ _ c.in-Ok.field-0 c.in-Some.edit c.known.ensures c.in-Ok.ensures c.in-Some.is c.in-Err-made.field-0 c.in-Err-made.ensures in
    rw c.refused-in-Err-made.ensures (record { served = served; unseen = hides_unread _ _ _ _ _ served; well_formed = c.known.ensures })
