use Rattle.book_questions_stays.proofs.Common.{subst}
use Rattle.book_lists.specs.Memberships.{Memberships}
use Rattle.book_questions_stays.specs.Stays.{IsMembersText}
use Rattle.book_questions_stays.proofs.answers.read_members.Goals as goal

pub returns : goal.returns
returns g c =
    let first = c.in_ok-pairs.ensures in
    record {
      was_honest = first.was_honest;
      falls = first.falls;
      value = λ h o stands.
          subst (λ (m : Memberships). IsMembersText c.args.policy.now m c.in_ok-members_text.field-0) (first.value h o stands) c.in_ok-members_text.ensures;
      kept = first.kept;
      left = first.left;
      counted = first.counted;
    }
