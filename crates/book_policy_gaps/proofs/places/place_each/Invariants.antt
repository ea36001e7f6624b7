use Rattle.book_policy_gaps.proofs.Common.{◌≡◌, map, take, Ok, List, Office, Reads}
use Rattle.book_policy_gaps.specs.Places.{place_at}
use Rattle.book_policy_gaps.specs.declared.places.Place.{Place}
use Rattle.book_policy_gaps.proofs.places.place_each.Given as goal

-- the paths so far are told
abbrev pub invariant-loop-path : goal.invariant-loop-path
invariant-loop-path g l = Reads (g.K.Keeper.standing l.fn.keeper) (g.K.Keeper.standing l.keeper) (Ok l.places.items)
    (λ (o : Office) (told : List Place). told ≡ map (place_at o) (take l.path-index l.paths))
