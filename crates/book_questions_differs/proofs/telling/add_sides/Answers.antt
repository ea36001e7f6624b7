use Rattle.book_questions_differs.proofs.Common.{◌≡◌, ◌∙◌, List, gathered, subst, Block}
use Rattle.std.specs.Result.{OnOk}
use Rattle.book_questions_differs.specs.Lines.{side_blocks, spot_blocks}
use Rattle.book_questions_differs.proofs.telling.add_sides.Goals as goal

pub returns : goal.returns
returns c =
    let parties = c.args.parties.now in
    let before = c.args.before in
    let after = c.args.after in
    let same : spot_blocks parties (record { path = c.in_ok-path.path; before = before.found; after = after.found }) c.as_slice.result.now ≡ side_blocks parties c.args.path.now before after =
    λ i. spot_blocks parties (record { path = c.in_ok-path.ensures i; before = before.found; after = after.found }) ((c.as_slice.ensures.value ∙ c.in_ok-pairs.ensures) i) in
    subst (λ (bs : List Block). OnOk c.add_spot.result (c.add_spot.new.blocks ≡ gathered c.args.blocks.now bs)) same c.add_spot.ensures
