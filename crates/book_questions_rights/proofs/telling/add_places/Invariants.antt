use Rattle.book_questions_rights.proofs.Common.{◌≡◌, flat_map, gathered, take}
use Rattle.book_questions_rights.specs.Lines.{place_blocks}
use Rattle.book_questions_rights.proofs.telling.add_places.Given as goal

-- the blocks of the places so far
abbrev pub invariant-loop-place : goal.invariant-loop-place
invariant-loop-place l = l.blocks ≡ gathered l.fn.blocks (flat_map (place_blocks l.shared l.askers) (take l.place-index l.places))
