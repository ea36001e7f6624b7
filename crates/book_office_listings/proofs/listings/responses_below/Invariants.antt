use Rattle.book_office_listings.proofs.Common.{◌≡◌, ◌++◌, List, length, AllZip, IsChildResponse, Response}
use Rattle.std.specs.Vec.Iter.{into_iter_items, into_iter_len}
use Rattle.book_office_listings.proofs.listings.responses_below.Given as goal

-- the responses so far, and responses for the children to come, are those of all children
abbrev pub invariant-loop-child : goal.invariant-loop-child
invariant-loop-child l = record {
  parts : (more : List Response) → AllZip (IsChildResponse l.find l.circle l.whole l.path l.levels) (into_iter_items l.child-iterator) more
      → AllZip (IsChildResponse l.find l.circle l.whole l.path l.levels) (into_iter_items l.initial.child-iterator) (l.responses.items ++ more);
  count : into_iter_len l.child-iterator ≡ length (into_iter_items l.child-iterator);
}
