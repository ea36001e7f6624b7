use Rattle.std.proofs.Common.{◌≤◌, length, rules}
use Rattle.book_lists_reach.specs.Pairs.{bit_alone}
use Rattle.book_lists_reach.proofs.Listing.{pairs_all, pairs_more}
use Rattle.book_lists_reach.proofs.reach.listed.Goals as goal

pub loop-i-preserved : goal.loop-i-preserved
loop-i-preserved c = pairs_more c.args.principals.now (bit_alone c.args.rows.now c.args.others.now c.args.places.now) c.loop-i.i c.loop-i.list.items c.push_row.new.list.items c.loop-i-test.true c.in_ok-push_row.ensures c.loop-i.invariant

pub returns : goal.returns
returns c =
    let all : length c.args.principals.now ≤ c.loop-i.i = search rules in
    pairs_all c.args.principals.now (bit_alone c.args.rows.now c.args.others.now c.args.places.now) c.loop-i.i c.loop-i.list.items all c.loop-i.invariant
