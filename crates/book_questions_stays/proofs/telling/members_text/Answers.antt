use Rattle.book_questions_stays.proofs.Common.{◌∙◌, ap, flat_map, gathered, map, Block}
use Rattle.std.proofs.Common.{filter}
use Rattle.std.specs.FinMap.{entries}
use Rattle.book_questions_stays.specs.Stays.{member_block, member_stays}
use Rattle.book_questions_stays.proofs.telling.members_text.Goals as goal

pub returns : goal.returns
returns c = (
  c.in_ok-list.list.items,
  c.in_ok-list.ensures.pairs,
  c.in_ok-text_of.ensures ∙ ap (λ m. flat_map (λ (b : Block). b.1) (entries m))
      (c.in_ok-add_members.ensures ∙ (λ i. gathered (c.new-blocks.ensures i) (map member_block (filter (member_stays c.args.policy.now) (c.as_slice.ensures.value i))))),
)
