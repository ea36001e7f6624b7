use Rattle.book_questions_audit.proofs.Common.{◌≡◌, ◌++◌, ◌∷◌, ◌+◌, [], take, sym, ap, arith, ◌∙◌, flat_map, gathered}
use Rattle.std.proofs.lemmas.List.{take_more, flat_map_more}
use Rattle.book_questions_audit.specs.Lines.{card_blocks}
use Rattle.book_office_audit.proofs.Gathering.{gathered_both}
use Rattle.book_questions_audit.proofs.telling.add_cards.Goals as goal

pub loop-card-preserved : goal.loop-card-preserved
loop-card-preserved c =
    let i = c.loop-card.card-index in
    let xs = c.as_slice-cards.result.now in
    let card = c.card-item.result in
    let f = card_blocks c.args.wanted c.args.part.now in
    let more : take (i + 1) xs ≡ take i xs ++ card ∷ [] = take_more xs i card (omega arith) ∙ ap (λ x. take i xs ++ x ∷ []) (sym c.card-item.is) in
    c.in_ok-add_card.ensures
    ∙ ap (λ m. gathered m (f card)) c.loop-card.invariant
    ∙ gathered_both c.args.blocks.now (flat_map f (take i xs)) (f card)
    ∙ ap (gathered c.args.blocks.now) (flat_map_more f [] (take i xs) card ∙ ap (flat_map f) (sym more))
