use Rattle.book_lists.proofs.Common.{sym}
use Rattle.book_lists.proofs.principal_sets.PrincipalSet.len.Goals as goal

pub returns : goal.returns
returns c = record {
  keys = c.self.inside.tree.keys;
  are = sym c.self.view_is;
  rising = c.self.invariant;
  counted = c.len.ensures.len;
}
