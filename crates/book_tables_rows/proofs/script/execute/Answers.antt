use Rattle.book_tables_rows.proofs.script.execute.Goals as goal

pub returns-clause-done : goal.returns-clause-done
returns-clause-done g c clean inside = record { count = c.in_ok-execute.field-0; ran = c.in_ok-execute.ensures.runs clean inside }

pub returns-clause-open : goal.returns-clause-open
returns-clause-open g c clean inside was = (c.in_ok-execute.ensures.runs clean inside).1.is_open
