use Rattle.book_questions_stays.proofs.Common.{◌∙◌, ap, gathered}
use Rattle.book_office.specs.declared.nodes.Level.{Level}
use Rattle.book_questions_stays.specs.Stays.{place_blocks}
use Rattle.book_office.proofs.Fallbacks.{then_falls}
use Rattle.book_questions_stays.proofs.answers.add_at.Goals as goal

pub returns : goal.returns
returns g c =
    let first = c.in_ok-level.ensures in
    let second = c.in_ok-cards.ensures in
    record {
      was_honest = λ h. first.was_honest (second.was_honest h);
      falls = then_falls first.falls second.falls;
      value = λ h o stands.
          let was = second.was_honest h in
          let level = first.value was o stands in
          let cards = second.value h o (first.kept was o stands) in
          c.in_ok-added.ensures
          ∙ (λ i. gathered c.args.blocks.now (place_blocks c.args.policy.now c.args.path.now ((c.as_slice-own.ensures ∙ ap (λ (l : Level). l.own) level) i) ((c.as_slice.ensures ∙ cards) i)));
      kept = λ h o stands. let was = second.was_honest h in second.kept h o (first.kept was o stands);
      left = λ h x left. first.left (second.was_honest h) x (second.left h x left);
      counted = second.counted ∙ first.counted;
    }
