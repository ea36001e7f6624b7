use Rattle.book_dumps.proofs.Common.{refl}
use Rattle.book_dumps.proofs.Turns.{failed_given, writes_then}
use Rattle.book_dumps.proofs.dumps.write_lines.Goals as goal

pub returns-in_err-write_epoch : goal.returns-in_err-write_epoch
returns-in_err-write_epoch g c = failed_given _ _ _ _ _ _ _ c.from_residual.result _ _ _ c.from_residual.ensures.1 c.in_err-write_epoch.ensures (λ o stands. refl)

pub returns : goal.returns
returns g c = writes_then _ _ _ _ _ _ _ _ _ _ _ _ _ _ c.in_ok-write_epoch.ensures c.write_resources.ensures (λ o stands. refl)
