use Rattle.book_office.proofs.Common.{◌++◌, take, Bool, List, flat_map, Leaf, IsJudged, Reading, read_by}
use Rattle.book_office.proofs.granting.over_lists.Given as goal

-- the lists so far are gone over
abbrev pub invariant-loop-list : goal.invariant-loop-list
invariant-loop-list l = (need : Leaf → Bool) (readings : List Reading) → IsJudged need readings l.initial.deciders
    → IsJudged need (readings ++ read_by l.circle l.here (flat_map (λ l. l.now) (take l.list-index l.lists))) l.deciders
