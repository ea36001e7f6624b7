use Rattle.book_lists.proofs.Common.{Bool, List, ◌++◌, take, Leaf, Reading, read_by}
use Rattle.book_lists.specs.Deciders.{IsJudged}
use Rattle.book_lists.proofs.deciders.Deciders.judge_over.Given as goal

-- the scan has come over the entries so far
abbrev pub invariant-loop-entry : goal.invariant-loop-entry
invariant-loop-entry l = (need : Leaf → Bool) (readings : List Reading) → IsJudged need readings l.fn.self
    → IsJudged need (readings ++ read_by l.circle l.here (take l.entry-index l.entries)) l.self
