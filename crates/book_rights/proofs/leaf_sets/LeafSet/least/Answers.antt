use Rattle.book_rights.proofs.Masks.{least_of, lowest_below}
use Rattle.book_rights.proofs.leaf_sets.LeafSet.least.Goals as goal

pub returns : goal.returns
returns c = rw (← c.self.view_is) (least_of c.self.inside.mask c.self.invariant c.if-self-eq0.false)

pub bounds-self-inside-self-inside : goal.bounds-self-inside-self-inside
bounds-self-inside-self-inside c = lowest_below c.self.inside.mask c.self.invariant c.if-self-eq0.false
