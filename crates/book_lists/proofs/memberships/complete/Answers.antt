use Rattle.std.proofs.lemmas.Result.{on_ok_weaker}
use Rattle.book_lists.proofs.Common.{pairs_in}
use Rattle.std.proofs.lemmas.Bool.{not_from_false}
use Rattle.book_lists.proofs.Reaching.{grows_at, grows_same}
use Rattle.book_lists.proofs.memberships.complete.Goals as goal

pub returns-then-knows : goal.returns-then-knows
returns-then-knows c = grows_same (pairs_in c.args.groups.now.entries) c.args.reach.now c.args.member.now c.requires.known (c.knows.ensures.some c.if-knows.true)

pub returns : goal.returns
returns c =
    let pairs = pairs_in c.args.groups.now.entries in
    let none = c.knows.ensures.none (not_from_false c.knows.result c.if-knows.false) in
    on_ok_weaker c.add_member.result (grows_at pairs c.args.reach.now c.args.member.now c.in_ok-above.above c.add_member.new.self c.requires.known none c.in_ok-above.ensures) c.add_member.ensures
