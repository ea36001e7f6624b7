use Rattle.std.proofs.Common.{◌≡◌, get_or, rules}
use Rattle.book_lists_reach.specs.Pairs.{pairs_in_rows}
use Rattle.book_lists_reach.proofs.Places.{listed_at, one_more_marked}
use Rattle.book_lists_reach.proofs.reach.mark_all.Goals as goal

pub loop-pair-preserved : goal.loop-pair-preserved
loop-pair-preserved c =
    let ps = c.args.principals.now in
    let list = c.args.list.now in
    let i = c.loop-pair.pair-index in
    let e = c.pair-item.result in
    let is : get_or list i e ≡ e = search rules in
    record {
      len = search rules;
      marked = one_more_marked (pairs_in_rows ps c.loop-pair.rows.items) (pairs_in_rows ps c.args.rows.now.items) (pairs_in_rows ps c.mark.new.rows.items) list i e c.loop-pair-test.true is
          (c.in_ok-mark.ensures.marked c.if-not-branch.false) c.loop-pair.invariant.marked;
    }

pub returns-then-not-branch-clause-missing : goal.returns-then-not-branch-clause-missing
returns-then-not-branch-clause-missing c = λ no.
    let list = c.args.list.now in
    let i = c.loop-pair.pair-index in
    let e = c.pair-item.result in
    let is : get_or list i e ≡ e = search rules in
    (e, listed_at list i e c.loop-pair-test.true is, c.in_ok-mark.ensures.missing c.if-not-branch.true)
