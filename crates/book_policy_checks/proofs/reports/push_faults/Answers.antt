use Rattle.std.proofs.Common.{drop, string_bytes}
use Rattle.std.proofs.lemmas.List.{drop_all}
use Rattle.book_policy_checks.proofs.Reported.{adds_next, adds_none}
use Rattle.book_policy_checks.proofs.reports.push_faults.Goals as goal

pub loop-fault-init : goal.loop-fault-init
loop-fault-init c = λ whole h. h

pub loop-fault-preserved : goal.loop-fault-preserved
loop-fault-preserved c = λ whole h.
    c.loop-fault.invariant whole
    (adds_next (string_bytes c.loop-fault.text) (string_bytes c.push_fault.new.text) whole c.args.faults.now c.loop-fault.fault-index _
    c.loop-fault-test.true c.in_ok-push_fault.ensures h)

pub returns : goal.returns
returns c =
    c.loop-fault.invariant (string_bytes c.loop-fault.text)
    (adds_none (string_bytes c.loop-fault.text) (drop c.loop-fault.fault-index c.args.faults.now)
    (drop_all c.loop-fault.fault-index c.args.faults.now c.loop-fault-test.false))
