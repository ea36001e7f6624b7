use Rattle.book_office_values.proofs.Common.{subst, AreNumbers}
use Rattle.book_office_values.proofs.Indexes.{indexed_are}
use Rattle.book_office_values.proofs.collections.changes.Changes.known.Goals as goal

pub returns : goal.returns
returns c = subst AreNumbers c.self.view_is (indexed_are c.self.inside.numbers c.self.inside.names c.self.invariant)
