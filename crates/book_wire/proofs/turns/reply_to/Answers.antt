use Rattle.book_wire.proofs.Common.{List, ℕ, on_ok_weaker, IfErr-weaker, Reply}
use Rattle.book_wire.proofs.Unspelled.{sent_begun, sent_whole}
use Rattle.book_wire.specs.Spelling.{spelling}
use Rattle.book_wire.proofs.turns.reply_to.Goals as goal

pub returns-clause-ok : goal.returns-clause-ok
returns-clause-ok g c =
    let text : Reply → List ℕ = λ r. spelling r c.is_bare.result c.args.asked.closes in
    rw (← c.is_bare.ensures)
    (rw (← c.caller_name.ensures)
    (on_ok_weaker c.note.result
    (λ made. sent_whole c.telling_changes_nothing.ensures _ _ _ _ _ _ c.serve-reply.result text _ _ c.serve-reply.ensures c.send-sent.result c.note.ensures.noted made c.send-sent.ensures.ok)
    c.note.ensures.ok))

pub returns-clause-err : goal.returns-clause-err
returns-clause-err g c =
    let text : Reply → List ℕ = λ r. spelling r c.is_bare.result c.args.asked.closes in
    rw (← c.is_bare.ensures)
    (rw (← c.caller_name.ensures)
    (IfErr-weaker c.note.result _ _
    (λ e stops. (stops, sent_begun c.telling_changes_nothing.ensures _ _ _ _ _ _ c.serve-reply.result text _ _ c.serve-reply.ensures c.send-sent.result c.note.ensures.noted c.send-sent.ensures.ok c.send-sent.ensures.err))
    c.note.ensures.err))
