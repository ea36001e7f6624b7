use Rattle.std.proofs.Common.{option_copied}
use Rattle.book_desk_denials.proofs.ReadLines.{HasCounted}
use Rattle.book_desk_denials.proofs.counting.count_log.Given as goal

abbrev pub invariant-loop-number : goal.invariant-loop-number
invariant-loop-number g l =
    HasCounted l.form (option_copied l.since) (g.R.Read.remaining l.fn.reader) (g.R.Read.remaining l.reader) l.groups l.number
