use Rattle.book_questions_json.proofs.Common.{◌≡◌, flat_map, gathered, take}
use Rattle.book_questions_json.specs.HeldBlocks.{place_objects}
use Rattle.book_questions_json.proofs.holding.add_places.Given as goal

-- the blocks of the places so far
abbrev pub invariant-loop-place : goal.invariant-loop-place
invariant-loop-place l = l.blocks ≡ gathered l.fn.blocks (flat_map (place_objects l.shared l.askers) (take l.place-index l.places))
