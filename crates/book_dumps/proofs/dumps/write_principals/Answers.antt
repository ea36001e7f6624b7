use Rattle.book_dumps.proofs.LinesInTurn.{lines_both}
use Rattle.book_dumps.proofs.Turns.{failed_given, writes_then}
use Rattle.book_dumps.proofs.dumps.write_principals.Goals as goal

pub returns-in_err-write_groups : goal.returns-in_err-write_groups
returns-in_err-write_groups g c = failed_given _ _ _ _ _ _ _ c.from_residual.result _ _ _ c.from_residual.ensures.1 c.in_err-write_groups.ensures (λ o stands. lines_both o _ _)

pub returns : goal.returns
returns g c = writes_then _ _ _ _ _ _ _ _ _ _ _ _ _ _ c.in_ok-write_groups.ensures c.write_people.ensures (λ o stands. lines_both o _ _)
