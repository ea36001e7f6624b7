use Rattle.book_questions_json.proofs.Common.{◌≡◌, ◌++◌, ◌∷◌, ◌+◌, [], take, sym, ap, arith, ◌∙◌, flat_map, gathered}
use Rattle.std.proofs.lemmas.List.{take_more, flat_map_more}
use Rattle.book_questions_json.specs.HeldBlocks.{place_objects}
use Rattle.book_office_audit.proofs.Gathering.{gathered_both}
use Rattle.book_questions_json.proofs.holding.add_places.Goals as goal

pub loop-place-preserved : goal.loop-place-preserved
loop-place-preserved c =
    let i = c.loop-place.place-index in
    let xs = c.args.places.now in
    let place = c.place-item.result in
    let f = place_objects c.args.shared c.args.askers.now in
    let more : take (i + 1) xs ≡ take i xs ++ place ∷ [] = take_more xs i place (omega arith) ∙ ap (λ x. take i xs ++ x ∷ []) (sym c.place-item.is) in
    c.in_ok-add_place.ensures
    ∙ ap (λ m. gathered m (f place)) c.loop-place.invariant
    ∙ gathered_both c.args.blocks.now (flat_map f (take i xs)) (f place)
    ∙ ap (gathered c.args.blocks.now) (flat_map_more f [] (take i xs) place ∙ ap (flat_map f) (sym more))
