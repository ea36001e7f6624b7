use Rattle.std.proofs.Common.{arith}
use Rattle.book_rights.specs.Leaves.{mask_of-leaves_in}
use Rattle.book_rights.proofs.leaf_sets.LeafSet.from_mask.Goals as goal

pub returns-clause-found : goal.returns-clause-found
returns-clause-found c = mask_of-leaves_in c.args.mask (omega (arith, c.if-mask-gt511.false))
