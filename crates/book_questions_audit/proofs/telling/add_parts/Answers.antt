use Rattle.book_questions_audit.proofs.Common.{◌≡◌, ◌++◌, ◌∷◌, ◌+◌, [], take, sym, ap, arith, ◌∙◌, flat_map, gathered}
use Rattle.std.proofs.lemmas.List.{take_more, flat_map_more}
use Rattle.book_questions_audit.specs.Lines.{part_blocks}
use Rattle.book_office_audit.proofs.Gathering.{gathered_both}
use Rattle.book_questions_audit.proofs.telling.add_parts.Goals as goal

pub loop-part-preserved : goal.loop-part-preserved
loop-part-preserved c =
    let i = c.loop-part.part-index in
    let xs = c.args.parts.now in
    let part = c.part-item.result in
    let f = part_blocks c.args.wanted in
    let more : take (i + 1) xs ≡ take i xs ++ part ∷ [] = take_more xs i part (omega arith) ∙ ap (λ x. take i xs ++ x ∷ []) (sym c.part-item.is) in
    c.in_ok-add_part.ensures
    ∙ ap (λ m. gathered m (f part)) c.loop-part.invariant
    ∙ gathered_both c.args.blocks.now (flat_map f (take i xs)) (f part)
    ∙ ap (gathered c.args.blocks.now) (flat_map_more f [] (take i xs) part ∙ ap (flat_map f) (sym more))
