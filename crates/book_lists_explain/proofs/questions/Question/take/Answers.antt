use Rattle.book_lists_explain.proofs.Common.{arith, length, ◌<◌}
use Rattle.book_lists_explain.proofs.Taken.{blank_taken, member_taken, caller_taken, need_taken, owner_taken, here_taken, entry_taken}
use Rattle.book_lists_explain.proofs.questions.Question.take.Goals as goal

pub returns-in-Blank-clause-taken : goal.returns-in-Blank-clause-taken
returns-in-Blank-clause-taken c said is = rw c.in-Blank.is (blank_taken said c.args.self.now is)

pub returns-in_ok-add-in-Member-clause-taken : goal.returns-in_ok-add-in-Member-clause-taken
returns-in_ok-add-in-Member-clause-taken c said is =
    rw c.in-Member.is (member_taken said c.args.self.now is c.in-Member.group c.in-Member.member c.add.new.self c.in_ok-add-in-Member.ensures.ok (omega arith))

pub returns-else-is_some-clause-taken : goal.returns-else-is_some-clause-taken
returns-else-is_some-clause-taken c said is = rw c.in-Asks.is (caller_taken said c.args.self.now is c.in-Asks.caller c.is_some.result c.is_some.ensures c.if-is_some.false)

pub returns-else-is_some-2-clause-taken : goal.returns-else-is_some-2-clause-taken
returns-else-is_some-2-clause-taken c said is = rw c.in-Need.is (need_taken said c.args.self.now is c.in-Need.set c.is_some-in-Need.result c.is_some-in-Need.ensures c.if-is_some-2.false)

pub returns-else-is_some-3-clause-taken : goal.returns-else-is_some-3-clause-taken
returns-else-is_some-3-clause-taken c said is = rw c.in-Owner.is (owner_taken said c.args.self.now is c.in-Owner.owner c.is_some-in-Owner.result c.is_some-in-Owner.ensures c.if-is_some-3.false)

pub returns-else-is_some-4-clause-taken : goal.returns-else-is_some-4-clause-taken
returns-else-is_some-4-clause-taken c said is = rw c.in-Here.is (here_taken said c.args.self.now is c.in-Here.principal c.is_some-in-Here.result c.is_some-in-Here.ensures c.if-is_some-4.false)

pub returns-in_ok-push-in-Listed-clause-taken : goal.returns-in_ok-push-in-Listed-clause-taken
returns-in_ok-push-in-Listed-clause-taken c said is =
    let small : length c.args.self.now.entries.items < 64 = omega (arith, c.args.self.now.entries.ok.0) in
    rw c.in-Listed.is (entry_taken said c.args.self.now is c.in-Listed.entry c.push.new.self c.in_ok-push-in-Listed.ensures.items small)
