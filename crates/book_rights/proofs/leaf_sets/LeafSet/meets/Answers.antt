use Rattle.book_rights.proofs.Masks.{meets_of}
use Rattle.book_rights.proofs.leaf_sets.LeafSet.meets.Goals as goal

pub returns : goal.returns
returns c = rw (← c.self.view_is, ← c.other.view_is) (meets_of c.self.inside.mask c.other.inside.mask c.self.invariant)
