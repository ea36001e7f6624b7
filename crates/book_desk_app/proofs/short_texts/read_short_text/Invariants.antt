use Rattle.book_desk_app.proofs.Common.{HasKept}
use Rattle.std.specs.Io.Iter.{bytes_remaining}
use Rattle.book_desk_app.proofs.short_texts.read_short_text.Given as goal

abbrev pub invariant-loop-byte : goal.invariant-loop-byte
invariant-loop-byte g l =
    HasKept l.most (bytes_remaining g.R.Read.remaining l.initial.byte-iterator) (bytes_remaining g.R.Read.remaining l.byte-iterator) l.test l.kept.items
