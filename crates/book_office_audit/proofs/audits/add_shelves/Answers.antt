use Rattle.book_office_audit.proofs.Common.{◌≡◌, ◌++◌, ◌∷◌, [], take, map, sym, ap, ◌∙◌, flat_map, block_of, gathered, shelf_blocks}
use Rattle.std.proofs.Common.{◌+◌, arith}
use Rattle.std.proofs.lemmas.List.{take_more, flat_map_more}
use Rattle.book_office_audit.proofs.Gathering.{gathered_both}
use Rattle.book_office_audit.proofs.audits.add_shelves.Goals as goal

pub loop-shelf-preserved : goal.loop-shelf-preserved
loop-shelf-preserved c =
    let i = c.loop-shelf.shelf-index in
    let xs = c.args.shelves.now in
    let shelf = c.shelf-item.result in
    let m = c.args.blocks.now in
    let more : take (i + 1) xs ≡ take i xs ++ shelf ∷ [] = take_more xs i shelf (omega arith) ∙ ap (λ x. take i xs ++ x ∷ []) (sym c.shelf-item.is) in
    c.in_ok-add_children.ensures
    ∙ (λ k. gathered (c.loop-shelf.invariant k) (map (block_of (c.as_str.ensures k)) (c.as_slice.ensures k)))
    ∙ gathered_both m (flat_map shelf_blocks (take i xs)) (shelf_blocks shelf)
    ∙ ap (gathered m) (flat_map_more shelf_blocks [] (take i xs) shelf ∙ ap (flat_map shelf_blocks) (sym more))
