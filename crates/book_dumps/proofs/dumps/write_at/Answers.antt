use Rattle.book_dumps.proofs.Common.{ap}
use Rattle.book_dumps.specs.Told.{texts_of}
use Rattle.book_dumps.proofs.Turns.{read_given, reads_puts}
use Rattle.book_dumps.proofs.dumps.write_at.Goals as goal

pub returns-in_err-line : goal.returns-in_err-line
returns-in_err-line g c = read_given _ _ _ _ _ c.from_residual.result _ _ c.from_residual.ensures.1 c.in_err-line.ensures

pub returns : goal.returns
returns g c = reads_puts _ _ _ _ _ _ _ _ _ _ _ c.in_ok-line.ensures c.put_told-put.ensures (λ o stands told. ap texts_of told)
