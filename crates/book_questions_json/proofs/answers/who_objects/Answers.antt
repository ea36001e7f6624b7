use Rattle.book_questions_json.proofs.Common.{◌∙◌, Ok, string_bytes, subst, sym}
use Rattle.book_questions_json.specs.Telling.{AreWhoObjects, TellsWhoObjects}
use Rattle.book_office.proofs.Fallbacks.{then_falls}
use Rattle.book_questions_json.proofs.answers.who_objects.Goals as goal

pub returns : goal.returns
returns g c =
    let first = c.in_ok-at.ensures in
    let second = c.in_ok-text.ensures in
    record {
      was_honest = λ h. first.was_honest (second.was_honest h);
      falls = then_falls first.falls second.falls;
      tells = λ h o stands.
          let was = second.was_honest h in
          subst (λ text. TellsWhoObjects o c.args.denied c.args.privilege c.args.path.now (Ok text)) (sym c.from_string.ensures) (
            c.in_ok-at.at,
            first.tells was o stands,
            subst (λ set. AreWhoObjects o c.args.denied c.in_ok-at.at set (string_bytes c.in_ok-text.text)) c.leaves.ensures (second.value h o (first.kept was o stands)),
          );
      kept = λ h o stands. let was = second.was_honest h in second.kept h o (first.kept was o stands);
      left = λ h x left. first.left (second.was_honest h) x (second.left h x left);
      counted = second.counted ∙ first.counted;
    }
