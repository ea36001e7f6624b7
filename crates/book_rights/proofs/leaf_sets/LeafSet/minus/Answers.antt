use Rattle.book_rights.proofs.Masks.{difference_of}
use Rattle.book_rights.proofs.leaf_sets.LeafSet.minus.Goals as goal

pub returns : goal.returns
returns c = rw (← c.self.view_is, ← c.other.view_is) (difference_of c.self.inside.mask c.other.inside.mask c.other.invariant)
