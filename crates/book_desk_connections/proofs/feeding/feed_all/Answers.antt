use Rattle.std.proofs.Common.{None, Some, refl}
use Rattle.book_office.proofs.Fallbacks.{still_falls, then_falls}
use Rattle.book_desk_connections.proofs.Fed.{fed_none, fed_then, others_fed}
use Rattle.book_desk_connections.proofs.feeding.feed_all.Goals as goal

pub loop-copy-init : goal.loop-copy-init
loop-copy-init g c = record { fed = fed_none _ _; others = λ j all. refl; falls = still_falls }

pub loop-copy-preserved : goal.loop-copy-preserved
loop-copy-preserved g c =
    let was = c.loop-copy.invariant in
    let one = c.in-None.ensures in
    record {
      fed = fed_then _ _ _ c.args.places.now.items c.loop-copy.places.items c.feed_one.new.places.items None was.fed one.fed;
      others = others_fed c.args.held.now c.loop-copy.copy-index c.copy-item.result c.args.places.now.items c.loop-copy.places.items c.feed_one.new.places.items
          c.loop-copy-test.true c.copy-item.is was.others one.others;
      falls = then_falls was.falls one.falls;
    }

pub returns-in-Some-clause-fed : goal.returns-in-Some-clause-fed
returns-in-Some-clause-fed g c =
    fed_then _ _ _ c.args.places.now.items c.loop-copy.places.items c.feed_one.new.places.items (Some c.in-Some.lost) c.loop-copy.invariant.fed c.in-Some.ensures.fed

pub returns-in-Some-clause-others : goal.returns-in-Some-clause-others
returns-in-Some-clause-others g c =
    others_fed c.args.held.now c.loop-copy.copy-index c.copy-item.result c.args.places.now.items c.loop-copy.places.items c.feed_one.new.places.items
    c.loop-copy-test.true c.copy-item.is c.loop-copy.invariant.others c.in-Some.ensures.others

pub returns-in-Some-clause-falls : goal.returns-in-Some-clause-falls
returns-in-Some-clause-falls g c = then_falls c.loop-copy.invariant.falls c.in-Some.ensures.falls
