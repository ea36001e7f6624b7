use Rattle.std.specs.Io.KnownBytes.{Consumes}
use Rattle.book_desk_asking.proofs.replies.read_head.Given as goal

-- the bytes so far are all that was read
abbrev pub invariant-loop : goal.invariant-loop
invariant-loop g l = Consumes (g.R.Read.remaining l.fn.reader) (g.R.Read.remaining l.reader) l.bytes.items
