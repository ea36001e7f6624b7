use Rattle.book_desk_serving.proofs.Common.{ap, Ok, Err}
use Rattle.std.proofs.KnownBytes.{Appends-nil}
use Rattle.book_desk_serving.proofs.InTurn.{stopped, turned}
use Rattle.book_desk_serving.proofs.connections.serve_one.Goals as goal

pub returns-in-Ok-clause-served : goal.returns-in-Ok-clause-served
returns-in-Ok-clause-served g c =
    turned _ _ _ (g.R.Read.remaining c.args.reader.now) (g.R.Read.remaining c.serve_stream.new.reader) (g.W.Write.contents c.args.writer.now)
    (g.W.Write.contents c.serve_stream.new.writer) (Ok c.in-Ok.served) c.turn_to.ensures c.in-Ok.ensures.served

pub returns-in-Err-clause-served : goal.returns-in-Err-clause-served
returns-in-Err-clause-served g c =
    let of = c.in-Err.ensures in
    let s = stopped _ _ _ _ _ _ c.in-Err.fault (λ e. of.memory (ap Err e)) (λ e. of.read (ap Err e)) (λ e. of.write (ap Err e)) (λ e. of.log (ap Err e)) in
    turned _ _ _ _ _ _ _ (Err c.in-Err.fault) c.turn_to.ensures s

pub returns-in-Ok-clause-told : goal.returns-in-Ok-clause-told
returns-in-Ok-clause-told g c = record { before = λ whole. whole; told = λ whole. Appends-nil (g.E.Write.contents c.args.errors.now) }

pub returns-in-Err-clause-told : goal.returns-in-Err-clause-told
returns-in-Err-clause-told g c = c.tell_line.ensures.line
