use Rattle.book_dumps.proofs.Turns.{nothing_cut}
use Rattle.book_dumps.proofs.dumps.put_last.Goals as goal

pub returns-in_err-line-clause-err : goal.returns-in_err-line-clause-err
returns-in_err-line-clause-err g c = nothing_cut (g.W.Write.contents c.args.writer.now) c.args.count c.from_residual.result
