use Rattle.book_questions_stays.proofs.Common.{◌∙◌, ◌++◌}
use Rattle.book_office.proofs.Fallbacks.{then_falls}
use Rattle.book_questions_stays.proofs.answers.stays.Goals as goal

pub returns : goal.returns
returns g c =
    let first = c.in_ok-members.ensures in
    let second = c.in_ok-places.ensures in
    record {
      was_honest = λ h. first.was_honest (second.was_honest h);
      falls = then_falls first.falls second.falls;
      value = λ h o stands.
          let was = second.was_honest h in
          let places = second.value h o (first.kept was o stands) in (
            c.in_ok-members.members,
            first.value was o stands,
            c.in_ok-joined.ensures ∙ (λ i. c.as_str.ensures i ++ (c.as_str-2.ensures ∙ places) i),
          );
      kept = λ h o stands. let was = second.was_honest h in second.kept h o (first.kept was o stands);
      left = λ h x left. first.left (second.was_honest h) x (second.left h x left);
      counted = second.counted ∙ first.counted;
    }
