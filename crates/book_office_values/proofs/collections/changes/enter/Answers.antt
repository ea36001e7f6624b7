use Rattle.book_office_values.proofs.Common.{◌+◌}
use Rattle.book_office_values.proofs.Entered.{number_undone}
use Rattle.book_office_values.proofs.collections.changes.enter.Goals as goal

pub returns-in-Err-clause-err_names : goal.returns-in-Err-clause-err_names
returns-in-Err-clause-err_names c =
    rw (c.remove.ensures, c.in_ok-insert.ensures.ok) (number_undone c.args.names.now (c.args.numbers.now.number + 1) c.in_ok-copied.field-0 c.requires.free)
