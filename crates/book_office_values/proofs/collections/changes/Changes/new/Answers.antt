use Rattle.book_office_values.proofs.Indexes.{indexed_empty}
use Rattle.book_office_values.proofs.collections.changes.Changes.new.Goals as goal

pub invariant_of-result : goal.invariant_of-result
invariant_of-result c = rw (c.new.ensures, c.new-2.ensures) indexed_empty
