use Rattle.book_tables.proofs.Readings.{read_unnamed}
use Rattle.book_tables.proofs.group_members.renewal_by.Goals as goal

pub returns-clause-reads : goal.returns-clause-reads
returns-clause-reads g c = read_unnamed _ _ c.renewal_at.result _ c.renewal_at.ensures
