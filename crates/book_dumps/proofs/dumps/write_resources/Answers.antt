use Rattle.book_dumps.proofs.Common.{refl}
use Rattle.book_dumps.proofs.Turns.{failed_given, writes_then}
use Rattle.book_dumps.proofs.dumps.write_resources.Goals as goal

pub returns-in_err-write_at : goal.returns-in_err-write_at
returns-in_err-write_at g c = failed_given _ _ _ _ _ _ _ c.from_residual.result _ _ _ c.from_residual.ensures.1 c.in_err-write_at.ensures (λ o stands. refl)

pub returns : goal.returns
returns g c = writes_then _ _ _ _ _ _ _ _ _ _ _ _ _ _ c.in_ok-write_at.ensures c.write_after_root.ensures (λ o stands. refl)
