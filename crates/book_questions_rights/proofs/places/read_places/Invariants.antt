use Rattle.book_questions_rights.proofs.Common.{◌≡◌, take, map, Ok, List, Reads, Office}
use Rattle.book_questions_rights.specs.Places.{place_of}
use Rattle.book_questions_rights.specs.declared.places.Place.{Place}
use Rattle.book_questions_rights.proofs.places.read_places.Given as goal

-- the paths so far were read
abbrev pub invariant-loop-path : goal.invariant-loop-path
invariant-loop-path g l = Reads (g.K.Keeper.standing l.fn.keeper) (g.K.Keeper.standing l.keeper) (Ok l.places.items)
    (λ (o : Office) (places : List Place). places ≡ map (place_of o) (take l.path-index l.paths))
