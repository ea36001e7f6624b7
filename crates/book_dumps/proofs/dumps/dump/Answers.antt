use Rattle.book_dumps.proofs.Turns.{dump_given, dumps_then}
use Rattle.book_dumps.proofs.dumps.dump.Goals as goal

pub returns-in_err-write_lines : goal.returns-in_err-write_lines
returns-in_err-write_lines g c = dump_given _ _ _ _ _ _ c.from_residual.result c.from_residual.ensures.1 c.in_err-write_lines.ensures

pub returns : goal.returns
returns g c = dumps_then _ _ _ _ _ _ _ _ c.in_ok-write_lines.ensures c.put_last.ensures.ok c.put_last.ensures.err c.put_last.ensures.cause
