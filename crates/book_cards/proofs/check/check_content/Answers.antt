use Rattle.book_cards.proofs.Common.{arith, sym, subst}
use Rattle.std.proofs.Common.{rules}
use Rattle.book_cards.specs.Places.{ArePlacesSeen}
use Rattle.book_cards.proofs.PlacesSeen.{one_more_seen}
use Rattle.book_cards.proofs.check.check_content.Goals as goal

pub loop-line-preserved : goal.loop-line-preserved
loop-line-preserved c =
    let found = c.in-Some.ensures in (
      search rules,
      search rules,
      omega (arith, found.1, c.loop-line.invariant.2),
      subst (ArePlacesSeen c.args.text.now c.in-Some.after.now) (sym c.with-places.ensures)
          (one_more_seen c.args.text.now c.loop-line.rest.now c.in-Some.after.now c.in-Some.line.now c.loop-line.places c.loop-line.invariant.3 found.0 found.2 c.in-Ok.property c.in-Ok.ensures.ok.1),
      omega (arith, found.1, c.loop-line.invariant.4),
    )
