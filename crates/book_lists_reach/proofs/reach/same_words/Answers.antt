use Rattle.std.proofs.Common.{◌≡◌, ◌≤◌, [], length, rules, arith}
use Rattle.book_lists_reach.proofs.Listing.{by_places}
use Rattle.book_lists_reach.proofs.reach.same_words.Goals as goal

pub returns : goal.returns
returns c = λ yes.
    let len : length c.args.rows.now ≡ length c.args.others.now = search rules in
    let all : length c.args.rows.now ≤ c.loop-i.i = search rules in
    by_places [] c.args.rows.now c.args.others.now len (λ k l. c.loop-i.invariant k (omega arith))
