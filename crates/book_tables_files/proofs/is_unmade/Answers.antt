use Rattle.book_tables_files.proofs.is_unmade.Goals as goal

pub returns-in-Ok-clause-ok : goal.returns-in-Ok-clause-ok
returns-in-Ok-clause-ok g c clean = rw c.requires.size at (c.in-Ok.ensures.ok clean)
