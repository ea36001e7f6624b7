use Rattle.book_log_replies.proofs.Common.{◌≡◌, ◌++◌, List, drop, slice_get, flat_map, Placed, placed}
use Rattle.book_log_replies.proofs.standing.found_in.Given as goal

-- the index is counted from the levels that are left
abbrev pub invariant-loop-level : goal.invariant-loop-level
invariant-loop-level l = (after : List Placed)
    → slice_get (flat_map (placed l.protected) l.levels ++ after) l.index
    ≡ slice_get (flat_map (placed l.protected) (drop l.level-index l.levels) ++ after) l.left
