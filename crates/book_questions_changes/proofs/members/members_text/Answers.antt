use Rattle.book_questions_changes.proofs.Common.{◌≡◌, ◌∙◌, List, ap, codes, empty, flat_map, gathered, map, Block}
use Rattle.std.specs.FinMap.{entries}
use Rattle.book_office_audit.proofs.Gathering.{gathered_both}
use Rattle.book_questions_changes.specs.Members.{missing_in, signed_block}
use Rattle.book_questions_changes.proofs.members.members_text.Goals as goal

pub returns : goal.returns
returns c =
    let gone : List Block = map (signed_block (codes "- ")) (missing_in c.args.after.now c.in_ok-gone.gone.items) in
    let added : List Block = map (signed_block (codes "+ ")) (missing_in c.args.before.now c.in_ok-added.added.items) in
    let first : c.add_missing.new.blocks ≡ gathered empty gone =
    c.in_ok-add_missing.ensures ∙ (λ i. gathered (c.new-blocks.ensures i) (map (signed_block (codes "- ")) (missing_in c.args.after.now (c.as_slice.ensures.value i)))) in
    let last : c.add_missing-2.new.blocks ≡ gathered (gathered empty gone) added =
    c.in_ok-add_missing-2.ensures ∙ (λ i. gathered (first i) (map (signed_block (codes "+ ")) (missing_in c.args.before.now (c.as_slice-2.ensures.value i)))) in (
      c.in_ok-gone.gone.items,
      c.in_ok-added.added.items,
      c.in_ok-gone.ensures.pairs,
      c.in_ok-added.ensures.pairs,
      c.in_ok-text_of.ensures ∙ ap (λ m. flat_map (λ (b : Block). b.1) (entries m)) (last ∙ gathered_both empty gone added),
    )
