use Rattle.book_office_listings.proofs.Common.{◌∙◌}
use Rattle.book_office_listings.proofs.ReadRulings.{rulings_read}
use Rattle.book_office.proofs.Fallbacks.{then_falls}
use Rattle.book_office_listings.proofs.reporting.effective_rulings.Goals as goal

pub returns : goal.returns
returns g c =
    let first = c.in_ok-node.ensures in
    let second = c.in_ok-lists.ensures in
    record {
      was_honest = λ h. first.was_honest (second.was_honest h);
      falls = then_falls first.falls second.falls;
      value = λ h o stands.
          rulings_read o c.args.circle.now c.args.path.now c.in-Some.node c.in_ok-node.field-0 c.in_ok-lists.lists c.as_slice.result.now c.in_ok-principal.principal c.in_ok-rulings.field-0
          (first.value (second.was_honest h) o stands) c.in-Some.is (second.value h o (first.kept (second.was_honest h) o stands))
          c.as_slice.ensures c.in_ok-principal.ensures c.in_ok-rulings.ensures;
      kept = λ h o stands. second.kept h o (first.kept (second.was_honest h) o stands);
      left = λ h x l. first.left (second.was_honest h) x (second.left h x l);
      counted = second.counted ∙ first.counted;
    }
