use Rattle.std.proofs.Common.{◌∙◌, sym}
use Rattle.book_desk_denials.proofs.ReadLines.{all_counted, one_counted, stops}
use Rattle.book_desk_denials.proofs.counting.count_log.Goals as goal

pub returns-then-not-is_there-clause-counted : goal.returns-then-not-is_there-clause-counted
returns-then-not-is_there-clause-counted g c =
    all_counted _ _ _ _ _ _ c.loop-number.invariant (c.in_ok-is_there.ensures.end c.if-not-is_there.true)

pub returns-in-Err-clause-stopped : goal.returns-in-Err-clause-stopped
returns-in-Err-clause-stopped g c = stops _ _ _ _ _ _ c.loop-number.invariant _ _ c.fault_of.ensures

pub loop-number-preserved : goal.loop-number-preserved
loop-number-preserved g c =
    let line = c.in-Ok.ensures in
    one_counted _ _ _ _ _ _ c.loop-number.invariant _ _ line.0 _ c.in_ok-is_there.ensures.read (sym c.as_slice.ensures.value ∙ line.1) line.2
