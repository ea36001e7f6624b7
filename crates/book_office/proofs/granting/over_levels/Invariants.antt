use Rattle.book_office.proofs.Common.{◌++◌, take, Bool, List, Leaf, IsJudged, Reading, read_by, lists_in}
use Rattle.book_office.proofs.granting.over_levels.Given as goal

-- the levels so far are gone over
abbrev pub invariant-loop-level : goal.invariant-loop-level
invariant-loop-level l = (need : Leaf → Bool) (readings : List Reading) → IsJudged need readings l.initial.deciders
    → IsJudged need (readings ++ read_by l.circle l.here (lists_in l.protected (take l.level-index l.levels))) l.deciders
