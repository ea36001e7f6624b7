use Rattle.book_desk_checks.proofs.Common.{ap, inl, inr, refl, Some, Keeps-refl}
use Rattle.book_desk_checks.proofs.over.check_over.Goals as goal

pub returns-in-Ok : goal.returns-in-Ok
returns-in-Ok g c = inr (c.in-Ok.tables, c.check_tables-status.result.1, c.in-Ok.ensures.opened, c.check_tables-status.ensures, ap Some c.release.ensures)

pub returns-in-Err : goal.returns-in-Err
returns-in-Err g c = inl (c.in-Err.failure, (c.in-Err.left, c.in-Err.ensures.refused), c.tell_line.ensures.status, refl, Keeps-refl _, c.tell_line.ensures.told)
