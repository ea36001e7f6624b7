use Rattle.book_rights.proofs.Masks.{with_of, or_below, pow_below}
use Rattle.book_rights.proofs.leaf_sets.LeafSet.with.Goals as goal

pub returns : goal.returns
returns c = rw (← c.self.view_is, c.bit_of.ensures) (with_of c.self.inside.mask c.args.leaf)

pub invariant_of-result : goal.invariant_of-result
invariant_of-result c = or_below c.self.inside.mask c.bit_of.result c.self.invariant (rw (c.bit_of.ensures) (pow_below c.args.leaf))
