use Rattle.book_questions_stays.proofs.Common.{◌∙◌, ap, flat_map, gathered, Block}
use Rattle.std.specs.FinMap.{entries}
use Rattle.book_questions_stays.specs.Stays.{blocks_at}
use Rattle.book_office.proofs.Fallbacks.{then_falls}
use Rattle.book_questions_stays.proofs.answers.read_places.Goals as goal

pub returns : goal.returns
returns g c =
    let first = c.in_ok-paths.ensures in
    let second = c.in_ok-add_each.ensures in
    record {
      was_honest = λ h. first.was_honest (second.was_honest h);
      falls = then_falls first.falls second.falls;
      value = λ h o stands.
          let was = second.was_honest h in
          let paths = first.value was o stands in
          let blocks = second.value h o (first.kept was o stands) in
          c.in_ok-text_of.ensures ∙ ap (λ m. flat_map (λ (b : Block). b.1) (entries m))
          (blocks ∙ (λ i. gathered (c.new-blocks.ensures i) (flat_map (blocks_at c.args.policy.now o) ((c.as_slice.ensures.value ∙ paths) i))));
      kept = λ h o stands. let was = second.was_honest h in second.kept h o (first.kept was o stands);
      left = λ h x left. first.left (second.was_honest h) x (second.left h x left);
      counted = second.counted ∙ first.counted;
    }
