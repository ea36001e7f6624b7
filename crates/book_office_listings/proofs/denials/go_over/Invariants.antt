use Rattle.book_office_listings.proofs.Common.{◌++◌, take, Bool, List, flat_map, Leaf, EffectiveEntry, standing_in}
use Rattle.book_office_listings.specs.Scanning.{IsWalk}
use Rattle.book_office_listings.proofs.denials.go_over.Given as goal

-- the levels so far are gone over
abbrev pub invariant-loop-level : goal.invariant-loop-level
invariant-loop-level l = (before : List EffectiveEntry) (set : Leaf → Bool) → IsWalk before l.circle l.here set l.initial.deciders
    → IsWalk (before ++ flat_map (standing_in l.protected) (take l.level-index l.levels)) l.circle l.here set l.deciders
