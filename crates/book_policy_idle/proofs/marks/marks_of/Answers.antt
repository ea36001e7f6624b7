use Rattle.book_policy_idle.proofs.Clearing.{are_marks}
use Rattle.book_policy_idle.proofs.marks.marks_of.Goals as goal

pub returns : goal.returns
returns c =
    are_marks c.args.entries.now c.args.askers.now c.args.paths.now c.in_ok-marks.marks.items c.clear_along.new.marks.items c.in_ok-marks.ensures c.in_ok-clear_along.ensures
