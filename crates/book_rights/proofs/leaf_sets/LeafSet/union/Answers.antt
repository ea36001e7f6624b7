use Rattle.book_rights.proofs.Masks.{union_of, or_below}
use Rattle.book_rights.proofs.leaf_sets.LeafSet.union.Goals as goal

pub returns : goal.returns
returns c = rw (← c.self.view_is, ← c.other.view_is) (union_of c.self.inside.mask c.other.inside.mask)

pub invariant_of-result : goal.invariant_of-result
invariant_of-result c = or_below c.self.inside.mask c.other.inside.mask c.self.invariant c.other.invariant
