use Rattle.std.proofs.Common.{◌≡◌, ◌++◌, length, arith, rules, length-append}
use Rattle.std.specs.Io.KnownBytes.{Appends, Consumes}
use Rattle.book_desk_asking.proofs.Streams.{appends_both, consumes_both}
use Rattle.book_desk_asking.proofs.replies.copy.Goals as goal

pub loop-left-preserved : goal.loop-left-preserved
loop-left-preserved g c =
    let x = c.loop-left.invariant in
    let piece = c.read_exact.new.buf in
    let size : length piece ≡ c.min-size.result = search rules in
    let read : Consumes (g.R.Read.remaining c.loop-left.reader) (g.R.Read.remaining c.read_exact.new.self) piece = search rules in
    let wrote : Appends (g.W.Write.contents c.loop-left.writer) (g.W.Write.contents c.write_all.new.self) piece = search rules in (
      x.0 ++ piece,
      omega (arith, x.1, size, length-append x.0 piece, c.min-size.ensures),
      consumes_both _ _ _ x.0 piece x.2 read,
      appends_both _ _ _ x.0 piece x.3 wrote,
    )
