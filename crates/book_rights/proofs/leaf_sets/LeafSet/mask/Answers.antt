use Rattle.std.proofs.Common.{◌∙◌, sym, ap}
use Rattle.book_rights.specs.Leaves.{mask_of, mask_of-leaves_in}
use Rattle.book_rights.proofs.leaf_sets.LeafSet.mask.Goals as goal

pub returns : goal.returns
returns c = sym (mask_of-leaves_in c.self.inside.mask c.self.invariant) ∙ ap mask_of c.self.view_is
