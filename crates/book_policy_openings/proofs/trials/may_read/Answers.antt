use Rattle.book_policy_openings.proofs.Reading.{read_kept, read_told}
use Rattle.book_policy_openings.proofs.trials.may_read.Goals as goal

pub returns-in-Some-clause-told : goal.returns-in-Some-clause-told
returns-in-Some-clause-told c = λ sound.
    read_told c.refusals_change_nothing.ensures.telling c.args.machine.now.keeper c.serve_in-reply.new.machine.keeper c.args.caller.now c.args.book.now
    c.in_ok-request.request c.serve_in-reply.result c.in-Some.may c.in_ok-request.ensures c.in-Some.ensures (c.serve_in-reply.ensures.served sound)

pub returns-in-Some-clause-kept : goal.returns-in-Some-clause-kept
returns-in-Some-clause-kept c = λ sound.
    read_kept c.refusals_change_nothing.ensures.telling c.args.machine.now.keeper c.serve_in-reply.new.machine.keeper c.args.caller.now c.args.book.now
    c.in_ok-request.request c.serve_in-reply.result c.in-Some.may c.in_ok-request.ensures c.in-Some.ensures (c.serve_in-reply.ensures.served sound)
