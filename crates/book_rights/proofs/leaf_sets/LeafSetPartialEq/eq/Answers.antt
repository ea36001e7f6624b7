use Rattle.book_rights.proofs.Masks.{same_of, computed_of}
use Rattle.book_rights.proofs.leaf_sets.LeafSetPartialEq.eq.Goals as goal

pub returns-clause-computed : goal.returns-clause-computed
returns-clause-computed c = rw (← c.self.view_is, ← c.other.view_is) (computed_of c.self.inside.mask c.other.inside.mask c.self.invariant c.other.invariant)

pub returns-clause-same : goal.returns-clause-same
returns-clause-same c = rw (← c.self.view_is, ← c.other.view_is) (same_of c.self.inside.mask c.other.inside.mask c.self.invariant c.other.invariant)
