use Rattle.book_office_listings.proofs.Common.{◌≡◌, ◌++◌, drop, slice_get, List, flat_map, EffectiveEntry, standing_in, paths_of}
use Rattle.book_office_listings.proofs.denials.place_among.Given as goal

-- the index is counted from the levels that are left
abbrev pub invariant-loop-level : goal.invariant-loop-level
invariant-loop-level l = (after : List EffectiveEntry)
    → slice_get (paths_of (flat_map (standing_in l.protected) l.levels ++ after)) l.initial.index
    ≡ slice_get (paths_of (flat_map (standing_in l.protected) (drop l.level-index l.levels) ++ after)) l.index
