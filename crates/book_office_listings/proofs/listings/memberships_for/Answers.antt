use Rattle.book_office_listings.proofs.Common.{◌∙◌, ap}
use Rattle.book_office_listings.specs.Reading.{pairs_about}
use Rattle.book_office_listings.proofs.listings.memberships_for.Goals as goal

pub returns : goal.returns
returns g c =
    let first = c.in_ok-pairs.ensures in
    let list = c.in_ok-from_pairs.ensures in
    record {
      was_honest = first.was_honest;
      falls = first.falls;
      value = λ h o stands. (
        λ asked. list.pairs ∙ first.value h o stands ∙ ap (pairs_about o.pairs) c.in_ok-groups.ensures,
        λ asked. list.in_order,
      );
      kept = first.kept;
      left = first.left;
      counted = first.counted;
    }
