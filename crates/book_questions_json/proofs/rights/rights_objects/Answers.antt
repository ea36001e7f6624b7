use Rattle.book_questions_json.proofs.Common.{◌∙◌, List, ℕ, subst, sym}
use Rattle.book_questions_json.specs.HeldBlocks.{AreRightsObjects}
use Rattle.book_office.proofs.Fallbacks.{then_falls}
use Rattle.book_questions_json.proofs.rights.rights_objects.Goals as goal

pub returns : goal.returns
returns g c =
    let first = c.in_ok-asked.ensures in
    let second = c.in_ok-text.ensures in
    record {
      was_honest = λ h. first.was_honest (second.was_honest h);
      falls = then_falls first.falls second.falls;
      tells = λ h o stands.
          let was = second.was_honest h in (
            c.in_ok-asked.asked,
            first.tells was o stands,
            subst (λ (text : List ℕ). AreRightsObjects o c.args.shared c.in_ok-asked.asked text) (sym c.from_string.ensures) (second.value h o (first.kept was o stands)),
          );
      kept = λ h o stands. let was = second.was_honest h in second.kept h o (first.kept was o stands);
      left = λ h x left. first.left (second.was_honest h) x (second.left h x left);
      counted = second.counted ∙ first.counted;
    }
