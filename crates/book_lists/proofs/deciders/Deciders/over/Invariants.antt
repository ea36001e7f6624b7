use Rattle.book_lists.proofs.Common.{Bool, List, ◌++◌, take, Leaf, Reading, read_by}
use Rattle.book_lists.specs.Deciders.{IsDeciders}
use Rattle.book_lists.proofs.deciders.Deciders.over.Given as goal

-- the scan has come over the entries so far
abbrev pub invariant-loop-entry : goal.invariant-loop-entry
invariant-loop-entry l = (need : Leaf → Bool) (readings : List Reading) → IsDeciders need readings l.fn.self
    → IsDeciders need (readings ++ read_by l.circle l.here (take l.entry-index l.entries)) l.self
