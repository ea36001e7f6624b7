use Rattle.book_office_listings.proofs.Common.{◌∙◌}
use Rattle.book_office.proofs.Fallbacks.{then_falls}
use Rattle.book_office_listings.proofs.listings.whole_for.Goals as goal

pub returns : goal.returns
returns g c =
    let first = c.in_ok-memberships.ensures in
    let second = c.in_ok-epoch.ensures in
    record {
      was_honest = λ h. first.was_honest (second.was_honest h);
      falls = then_falls first.falls second.falls;
      value = λ h o stands.
          let told = first.value (second.was_honest h) o stands in
          record {
            memberships = λ asked. told.0 (c.asks_members.ensures ∙ asked);
            in_order = λ asked. told.1 (c.asks_members.ensures ∙ asked);
            epoch = λ asked. second.value h o (first.kept (second.was_honest h) o stands) (c.asks_token.ensures ∙ asked);
          };
      kept = λ h o stands. second.kept h o (first.kept (second.was_honest h) o stands);
      left = λ h x l. first.left (second.was_honest h) x (second.left h x l);
      counted = second.counted ∙ first.counted;
    }
