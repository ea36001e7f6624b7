use Rattle.book_office_listings.proofs.Common.{◌∙◌, subst}
use Rattle.book_office_listings.specs.Reading.{AreRead, IsWholeRead}
use Rattle.book_office_listings.proofs.OneGroup.{listing_is}
use Rattle.book_office.proofs.Fallbacks.{then_falls}
use Rattle.book_office_listings.proofs.listings.listing.Goals as goal

pub returns : goal.returns
returns g c =
    let first = c.in_ok-lists.ensures in
    let second = c.in_ok-children.ensures in
    let third = c.in_ok-whole.ensures in
    let find = c.args.find.now in
    let whole = c.in_ok-whole.whole in
    record {
      was_honest = λ h. first.was_honest (second.was_honest (third.was_honest h));
      falls = then_falls first.falls (then_falls second.falls third.falls);
      value = λ h o stands there.
          let h2 = third.was_honest h in
          let h1 = second.was_honest h2 in
          let s1 = first.kept h1 o stands in
          let s2 = second.kept h2 o s1 in
          listing_is find c.args.circle.now o c.args.path.now c.args.node.now c.in_ok-lists.lists c.in_ok-children.children whole c.in_ok-responses.field-0
          (first.value h1 o stands) (second.value h2 o s1)
          (subst (λ asked. IsWholeRead o c.args.path.now find.extent asked whole) c.as_slice-asked.ensures (third.value h o s2))
          (subst (λ ls. AreRead find c.args.circle.now whole ls c.args.node.now c.in_ok-children.children c.in_ok-responses.field-0) c.as_slice.ensures c.in_ok-responses.ensures)
          there;
      kept = λ h o stands.
          let h2 = third.was_honest h in
          let h1 = second.was_honest h2 in
          third.kept h o (second.kept h2 o (first.kept h1 o stands));
      left = λ h x l.
          let h2 = third.was_honest h in
          let h1 = second.was_honest h2 in
          first.left h1 x (second.left h2 x (third.left h x l));
      counted = third.counted ∙ second.counted ∙ first.counted;
    }
