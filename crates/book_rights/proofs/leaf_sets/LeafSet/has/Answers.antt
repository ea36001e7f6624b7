use Rattle.book_rights.proofs.Masks.{has_of}
use Rattle.book_rights.proofs.leaf_sets.LeafSet.has.Goals as goal

pub returns : goal.returns
returns c = rw (← c.self.view_is, c.bit_of.ensures) (has_of c.self.inside.mask c.args.leaf)
